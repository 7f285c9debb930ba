-- `keep` and `give`, piece by piece. Assumes nothing.
use mathlib.Core.Path.{◌≡◌, sym, ap, ◌∙◌}
use mathlib.Core.List.{List, ◌++◌}
use Prim.Native.Nat.{ℕ, ◌+◌, ◌-◌, ◌*◌, ◌≤◌, ◌<◌}
use native.Mathlib.Omega.{arith}
use lib.ListN.{length, take, drop, length-append, length-take, length-drop}
use lib.Seq.{drop-drop, take-append_seam, drop-append_seam}
use Rattle.ump.proofs.Fronts.{drop-take, part_of_front}
use Rattle.flow.specs.Digits.{val}
use Rattle.merge.specs.Thirteens.{body, front_of, middle_of}
use Rattle.merge.specs.Pieces.{taken, Reaches, Appends, Runs, Goes, Given, Kept}
use Rattle.merge.specs.declared.held.Pending.{Pending}
use Rattle.merge.proofs.Goings.{appends_goes, goes_by, goes_none, runs_reaches, runs_rest}
use Rattle.merge.proofs.Keeping.{slice_alike, Parted, kept_middle, kept_run, kept_tail}

-- ---- lent bytes

abbrev pub Gave : Pending → ℕ → List ℕ → List ℕ → List ℕ → ℕ → Pending → ℕ → Type 0
Gave p from lent ws us head r at = Goes (Given (taken p) from (at - from) lent) ws us head p (at - from) r

pub gave_none : (p : Pending) (from : ℕ) (lent ws : List ℕ) (head : ℕ) → Gave p from lent ws ws head p from
gave_none p from lent ws head =
    let z : 0 ≡ from - from = omega arith in
    rw (← z) goes_none

module _ {p r : Pending} {at head : ℕ} {ws us : List ℕ} (from : ℕ) (lent : List ℕ) (g : Gave p from lent ws us head r at) (low : from ≤ at) where
  pub gave_more : {us' : List ℕ} {next : Pending} (x s : ℕ) → s ≤ 13 → x ≡ val 13 (take s (drop at lent)) → Appends us us' head r x s next → Gave p from lent ws us' head next (at + s)
  gave_more x s most is a =
      let h = appends_goes a most in
      let e : at + s - from ≡ (at - from) + s = omega arith in
      record {
        long = h.long ∙ g.long;
        more = omega (arith, h.more, g.more);
        flows = λ w b f below l c.
            let all : take ((at - from) + s) (drop (taken p) b) ≡ take ((at - from) + s) (drop from lent) = rw e at c in
            let there : from + (at - from) ≡ at = omega arith in
            let zeros : (k : ℕ) → k + 0 ≡ k = λ k. omega arith in
            let front = rw (zeros (taken p), zeros from) at (slice_alike (taken p) from ((at - from) + s) 0 (at - from) b lent all (omega arith)) in
            let back = rw there at (slice_alike (taken p) from ((at - from) + s) (at - from) s b lent all (omega arith)) in
            h.flows w b (g.flows w b f below (omega arith) front) below (omega (arith, g.more)) (is ∙ ap (val 13) (sym (rw (← g.more) at back)));
      }

  -- what the next piece asks
  pub gave_ready : (to s : ℕ) (n : Runs (Given (taken p) from (to - from) lent) ws head p (to - from)) → at + s ≤ to → Reaches (length us) head r s
  gave_ready to s n le =
      let part : take (at - from) (drop (taken p) n.bytes) ≡ take (at - from) (drop from lent) =
      let zeros : (k : ℕ) → k + 0 ≡ k = λ k. omega arith in
      rw (zeros (taken p), zeros from) at (slice_alike (taken p) from (to - from) 0 (at - from) n.bytes lent n.comes (omega arith)) in
      runs_reaches (runs_rest {E = Given (taken p) from (at - from) lent} n g part part s (omega arith)) s (omega arith)

-- lent bytes from..to, of which these are left
pub record Left (lent : List ℕ) (from to : ℕ) (rest : List ℕ) : Type 0 where
  pub ahead : from ≤ to
  pub inside : length rest ≤ to - from
  pub back : rest ≡ drop (to - length rest) (take to lent)

pub left_all : (lent : List ℕ) (from to : ℕ) → from ≤ to → to ≤ length lent → Left lent from to (take (to - from) (drop from lent))
left_all lent from to h l =
    let n : length (take (to - from) (drop from lent)) ≡ to - from = simp (length-take, length-drop) (omega arith) in
    let e : to - (to - from) ≡ from = omega arith in
    record { ahead = h; inside = omega (arith, n); back = rw (n, e) (sym (drop-take from to lent)) }

module _ {lent : List ℕ} {from to : ℕ} {left : List ℕ} (l : Left lent from to left) (piece rest : List ℕ) (e : left ≡ piece ++ rest) where
  long : length left ≡ length piece + length rest
  long = ap length e ∙ length-append piece rest

  pub left_piece : piece ≡ take (length piece) (drop (to - length left) lent)
  left_piece =
      sym (take-append_seam piece rest)
      ∙ ap (take (length piece)) (sym e ∙ l.back)
      ∙ part_of_front (to - length left) (length piece) to lent (omega (arith, long, l.inside, l.ahead))

  pub left_rest : Left lent from to rest
  left_rest =
      let n : to - length left + length piece ≡ to - length rest = omega (arith, long, l.inside, l.ahead) in
      record {
        ahead = l.ahead;
        inside = omega (arith, long, l.inside);
        back = sym (drop-append_seam piece rest) ∙ ap (drop (length piece)) (sym e ∙ l.back) ∙ drop-drop (length piece) (to - length left) (take to lent) ∙ rw n;
      }

-- ---- bytes that are kept

module _ {head lag at to hand byte some first last rest : ℕ} {p : Pending} {ws : List ℕ} (n : Parted at to byte some first last rest) (s : Runs (Kept head lag at to hand (taken p)) ws head p (to - at)) where
  pub keep_first : Reaches (length ws) head p some
  keep_first = runs_reaches s some (omega (arith, n.sum))

  module _ {us : List ℕ} {r : Pending} (x : ℕ) (is : x ≡ middle_of hand byte some) (le : at ≤ to) (a : Appends ws us head p x some r) where
    few : some ≤ 13
    few = omega (arith, n.few.1.0)

    pub keep_run : Runs (Kept head lag (13 * first) (13 * last) 0 (taken r)) us head r (13 * (last - first))
    keep_run =
        let g = appends_goes a few in
        runs_rest s g (is ∙ kept_middle s.comes byte some n.byte_is n.some_is le) (rw (← g.more) at (kept_run s.comes n)) (13 * (last - first)) (omega (arith, n.sum))

    module _ {vs : List ℕ} {q : Pending} (g : Goes (Kept head lag (13 * first) (13 * last) 0 (taken r)) us vs head r (13 * (last - first)) q) where
      pub keep_last : Reaches (length vs) head q rest
      keep_last = runs_reaches (runs_rest {E = Kept head lag (13 * first) (13 * last) 0 (taken r)} keep_run' g keep_run'.comes keep_run'.comes rest (omega arith)) rest (omega arith)
        where
          keep_run' : Runs (Kept head lag (13 * first) (13 * last) 0 (taken r)) us head r (13 * (last - first) + rest)
          keep_run' =
              let h = appends_goes a few in
              runs_rest s h (is ∙ kept_middle s.comes byte some n.byte_is n.some_is le) (rw (← h.more) at (kept_run s.comes n)) (13 * (last - first) + rest) (omega (arith, n.sum))

-- all three
pub keep_goes : {head lag at to hand byte some first last rest : ℕ} {p r q z : Pending} {ws us vs xs : List ℕ} → Parted at to byte some first last rest → at ≤ to
    → (x : ℕ) → x ≡ middle_of hand byte some → Appends ws us head p x some r
    → Goes (Kept head lag (13 * first) (13 * last) 0 (taken r)) us vs head r (13 * (last - first)) q
    → (y : ℕ) → y ≡ front_of (val 13 (body vs (last + lag))) rest → Appends vs xs head q y rest z
    → Goes (Kept head lag at to hand (taken p)) ws xs head p (to - at) z
keep_goes {at = at} {to = to} {byte = byte} {some = some} {first = first} {last = last} {rest = rest} {p = p} {r = r} {q = q} {vs = vs} n le x x-is a g y y-is c =
    let one = appends_goes a (omega (arith, n.few.1.0)) in
    let three = appends_goes c (omega (arith, n.tail)) in
    record {
      long = three.long ∙ g.long ∙ one.long;
      more = omega (arith, one.more, g.more, three.more, n.sum);
      flows = λ w b f below l k.
          let f1 = one.flows w b f below (omega (arith, n.sum)) (x-is ∙ kept_middle k byte some n.byte_is n.some_is le) in
          let f2 = g.flows w b f1 below (omega (arith, one.more, n.sum)) (rw (← one.more) at (kept_run k n)) in
          let now : 0 < rest → taken q ≡ taken p + (13 * last - at) = λ h. here (taken p) (taken r) (taken q) one.more g.more n.whole (n.meets (meets h)).0 in
          three.flows w b f2 below (omega (arith, one.more, g.more, n.sum)) (y-is ∙ kept_tail k q vs f2 last rest (omega (arith, n.from, n.whole)) (omega (arith, n.tail)) (λ h. omega (arith, (n.reach h).0)) now);
    }
  where
    meets : 0 < rest → 13 * first ≤ to
    meets h = omega (arith, (n.reach h).0, n.whole)

    here : (m m1 m2 : ℕ) → m1 ≡ m + some → m2 ≡ m1 + 13 * (last - first) → first ≤ last → at + some ≡ 13 * first → m2 ≡ m + (13 * last - at)
    here m m1 m2 e e' h i = omega arith

-- where all of it stands in the packet of the first byte
pub keep_short : {head lag at to hand byte some first last rest : ℕ} {p r : Pending} {ws us : List ℕ} → Parted at to byte some first last rest → at ≤ to → to ≤ 13 * first
    → (x : ℕ) → x ≡ middle_of hand byte some → Appends ws us head p x some r → Goes (Kept head lag at to hand (taken p)) ws us head p (to - at) r
keep_short {at = at} {to = to} {byte = byte} {some = some} n le near x x-is a =
    let all : some ≡ to - at = omega (arith, n.all near) in
    rw (← all) (goes_by (appends_goes a (omega (arith, n.few.1.0))) (λ w b k. x-is ∙ kept_middle k byte some n.byte_is n.some_is le))
