-- Bytes that are taken piece after piece. Assumes nothing.
use mathlib.Core.Path.{◌≡◌, refl, sym, ap, ◌∙◌}
use mathlib.Core.List.{List}
use Prim.Native.Nat.{ℕ, ◌+◌, ◌*◌, ◌/◌, ◌≤◌}
use native.Mathlib.Nat.{add-zero}
use native.Mathlib.Omega.{arith}
use lib.ListN.{length, take, drop}
use Rattle.ump.proofs.First.{Side, under, over, side}
use Rattle.flow.specs.Digits.{val}
use Rattle.flow.proofs.Flowing.{flow_step}
use Rattle.merge.specs.Pieces.{taken, Reaches, Appends, Runs, Goes}
use Rattle.merge.proofs.Sums.{flows_padded}
use Rattle.merge.specs.declared.held.Pending.{Pending}

-- ---- pieces that follow each other

module _ {C : List ℕ → List ℕ → Type 0} {ws us : List ℕ} {head s : ℕ} {p r : Pending} (g : Goes C ws us head p s r) where
  -- for less
  pub goes_by : {D : List ℕ → List ℕ → Type 0} → ((w bytes : List ℕ) → D w bytes → C w bytes) → Goes D ws us head p s r
  goes_by h = record { long = g.long; more = g.more; flows = λ w b f below l d. g.flows w b f below l (h w b d) }

pub goes_none : {C : List ℕ → List ℕ → Type 0} {ws : List ℕ} {head : ℕ} {p : Pending} → Goes C ws ws head p 0 p
goes_none = record { long = refl; more = sym (add-zero _); flows = λ w b f below l c. f }

-- some more, and then some more of the same
pub goes_on : {C D : List ℕ → List ℕ → Type 0} {ws us vs : List ℕ} {head s t : ℕ} {p r q : Pending} → Goes C ws us head p s r → Goes D us vs head r t q
    → Goes (λ w bytes. C w bytes × D w bytes) ws vs head p (s + t) q
goes_on g h = record {
  long = h.long ∙ g.long;
  more = omega (arith, g.more, h.more);
  flows = λ w b f below l c. h.flows w b (g.flows w b f below (omega arith) c.0) below (omega (arith, g.more)) c.1;
}

-- a piece
module _ {ws us : List ℕ} {head n s : ℕ} {p r : Pending} (a : Appends ws us head p n s r) where
  long_and_more : Side (p.count + s) 13 → (length us ≡ length ws) × (taken r ≡ taken p + s)
  long_and_more (under h _) = let t = a.appended.fewer h in (ap length t.0, omega (arith, t.1.1.0, t.1.1.1))
  long_and_more (over h _) = let t = a.appended.enough h in (t.0.long, omega (arith, t.1.1.0, t.1.1.1))

  pub appends_goes : s ≤ 13 → Goes (λ w bytes. n ≡ val 13 (take s (drop (taken p) bytes))) ws us head p s r
  appends_goes most = record {
    long = (long_and_more (side (p.count + s) 13)).0;
    more = (long_and_more (side (p.count + s) 13)).1;
    flows = λ w b f below l is. (flow_step f below a.appended most l is).0;
  }

-- ---- what can be taken

-- the first of it fits
pub runs_reaches : {C : List ℕ → List ℕ → Type 0} {ws : List ℕ} {head n : ℕ} {p : Pending} (s : Runs C ws head p n) (t : ℕ) → t ≤ n → Reaches (length ws) head p t
runs_reaches {p = p} s t le = record {
  padded = flows_padded s.flows s.below;
  fits = less (taken p) t _ _ le s.room;
  small = s.small;
  free = s.free;
}
  where
    less : (m t n room : ℕ) → t ≤ n → 4 * ((m + n) / 13) ≤ room → 4 * ((m + t) / 13) ≤ room
    less m t n room h l = omega arith

-- and the rest of it, once the first is taken
pub runs_rest : {C D E : List ℕ → List ℕ → Type 0} {ws us : List ℕ} {head n a : ℕ} {p r : Pending} (s : Runs C ws head p n) (g : Goes D ws us head p a r) → D s.w s.bytes → E s.w s.bytes
    → (t : ℕ) → a + t ≤ n → Runs E us head r t
runs_rest {n = n} {a = a} {p = p} s g d e t le = record {
  w = s.w;
  bytes = s.bytes;
  flows = g.flows s.w s.bytes s.flows s.below (omega (arith, s.enough)) d;
  below = s.below;
  enough = omega (arith, s.enough, g.more);
  comes = e;
  room = rw (g.long, g.more) (less (taken p) a t n _ le s.room);
  small = rw g.long s.small;
  free = s.free;
}
  where
    less : (m a t n room : ℕ) → a + t ≤ n → 4 * ((m + n) / 13) ≤ room → 4 * ((m + a + t) / 13) ≤ room
    less m a t n room h l = omega arith
