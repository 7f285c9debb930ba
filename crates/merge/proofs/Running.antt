-- Whole packets taken one after the other. Assumes nothing.
use mathlib.Core.Path.{◌≡◌, refl, sym, ap, ◌∙◌, subst}
use mathlib.Core.List.{List}
use Prim.Native.Nat.{ℕ, ◌+◌, ◌-◌, ◌*◌, ◌/◌, ◌%◌, ◌^◌, ◌≤◌, ◌<◌}
use native.Mathlib.Nat.{mul-mod_left}
use native.Mathlib.Omega.{arith}
use lib.ListN.{length, take, drop}
use Rattle.std.proofs.Common.{lit≤}
use Rattle.std.proofs.Math.Bridge.{le_prop}
use Rattle.ump.specs.Packet.{sysex8}
use Rattle.flow.specs.Digits.{val}
use Rattle.flow.specs.Flowing.{Put}
use Rattle.flow.proofs.Digits.{val_nil}
use Rattle.merge.specs.Thirteens.{body}
use Rattle.merge.specs.Pieces.{waiting, taken, none, Padded, Flows, Appends, Runs, Goes, Kept}
use Rattle.merge.specs.declared.held.Pending.{Pending}
use Rattle.merge.proofs.Goings.{goes_none, appends_goes}
use Rattle.merge.proofs.Sums.{flows_padded}
use Rattle.merge.proofs.Keeping.{kept_less, kept_packet, kept_there}

-- packets up to this one are taken
abbrev pub Ran : ℕ → ℕ → ℕ → Pending → List ℕ → List ℕ → Pending → ℕ → Type 0
Ran head lag first p ws us r packet = Goes (Kept head lag (13 * first) (13 * packet) 0 (taken p)) ws us head p (13 * (packet - first)) r

pub ran_none : (head lag first : ℕ) (p : Pending) (ws : List ℕ) → Ran head lag first p ws ws p first
ran_none head lag first p ws =
    let z : 0 ≡ 13 * (first - first) = omega arith in
    rw (← z) goes_none

module _ {head lag first : ℕ} {p r : Pending} {ws us : List ℕ} {packet : ℕ} (g : Ran head lag first p ws us r packet) (low : first ≤ packet) where
  -- one more
  pub ran_more : (x : ℕ) (us' : List ℕ) (next : Pending) → x ≡ val 13 (body us (packet + lag)) → Appends us us' head r x 13 next → Ran head lag first p ws us' next (packet + 1)
  ran_more x us' next is a =
      let h = appends_goes a (omega arith) in
      record {
        long = h.long ∙ g.long;
        more = omega (arith, h.more, g.more);
        flows = λ w b f below l k.
            let now = g.flows w b f below (omega arith) (kept_less k (13 * packet) (omega arith)) in
            h.flows w b now below (omega (arith, g.more)) (is ∙ kept_packet k r us now packet low (omega arith) g.more);
      }

  -- there is room for it
  module _ (last : ℕ) (s : Runs (Kept head lag (13 * first) (13 * last) 0 (taken p)) ws head p (13 * (last - first))) (high : packet < last) where
    pub ran_padded : Padded r
    ran_padded = flows_padded (g.flows s.w s.bytes s.flows s.below (omega (arith, s.enough)) (kept_less s.comes (13 * packet) (omega arith))) s.below

    pub ran_room : 4 * r.packet + 4 ≤ length us
    ran_room = rw g.long (fits (taken p) r.packet r.count packet first last (length ws) g.more low high s.room)
      where
        fits : (m q c packet first last room : ℕ) → 13 * q + c ≡ m + 13 * (packet - first) → first ≤ packet → packet < last → 4 * ((m + 13 * (last - first)) / 13) ≤ room → 4 * q + 4 ≤ room
        fits m q c packet first last room e l h k =
            let t : 13 * (q + 1) ≤ m + 13 * (last - first) + 12 = omega arith in
            let u : q + 1 ≤ (m + 13 * (last - first) + 12) / 13 = omega arith in
            omega arith

-- a packet is written, after what waits
pub append-full : {us us' : List ℕ} {head n : ℕ} (p next : Pending) (x s : ℕ) → Put sysex8 us p.packet head n us' → n ≡ waiting p + x / 2 ^ (8 * p.count) → 13 ≤ p.count + s
    → waiting next ≡ x * 2 ^ (8 * (13 - p.count)) % 2 ^ 104 → next.count + 13 ≡ p.count + s → next.packet ≡ p.packet + 1 → Appends us us' head p x s next
append-full p next x s put is full left count packet = record {
  appended = record {
    fewer = λ l. absurd (omega arith);
    enough = λ l. (rw is at put, (left, (count, packet)));
  };
}

-- where no byte waits
pub append_even : {us us' : List ℕ} {head to : ℕ} (n : ℕ) → Put sysex8 us to head n us' → Appends us us' head (none to) n 13 (none (to + 1))
append_even {to = to} n put =
    let e : n ≡ 0 * 2 ^ 64 + 0 + n / 2 ^ (8 * 0) = omega arith in
    append-full (none to) (none (to + 1)) n 13 put e (omega arith) (sym (mul-mod_left n (2 ^ 104))) refl refl

-- ---- where no byte waits

none_is : (p : Pending) → p.high ≡ 0 → p.low ≡ 0 → p.count ≡ 0 → p ≡ none p.packet
none_is p a b c = go p.high p.low p.count a b c p.fits
  where
    go : (h l n : ℕ) → h ≡ 0 → l ≡ 0 → n ≡ 0 → (s : h < 2 ^ 40) → ◌≡◌ {A = Pending} (record { high = h; low = l; count = n; packet = p.packet; fits = s }) (none p.packet)
    go h l n a b c = rw (a, b, c) (λ s. ap (λ (t : 0 < 2 ^ 40). record { high = 0; low = 0; count = 0; packet = p.packet; fits = t }) (le_prop s (lit≤ tt)))

pub flows_none : {w bytes us : List ℕ} {head : ℕ} (p : Pending) → Flows w bytes head p us → p.count ≡ 0 → p ≡ none p.packet
flows_none {bytes = bytes} p f z =
    let e : waiting p ≡ 0 = f.waits ∙ ap (λ (k : ℕ). val 13 (take k (drop (13 * p.packet) bytes))) z ∙ val_nil 13 in
    none_is p (omega (arith, e)) (omega (arith, e)) z

pub goes_as : {head lag from to n : ℕ} {ws us : List ℕ} {p q r : Pending} → p ≡ q → Goes (Kept head lag from to 0 (taken q)) ws us head q n r
    → Goes (Kept head lag from to 0 (taken p)) ws us head p n r
goes_as e g = rw e g

-- packets that stand in their places are taken at once
pub ran_there : (head lag first last : ℕ) (p : Pending) (us : List ℕ) → p.count ≡ 0 → first ≤ last → p.packet ≡ first + lag
    → Goes (Kept head lag (13 * first) (13 * last) 0 (taken p)) us us head p (13 * (last - first)) (none (p.packet + (last - first)))
ran_there head lag first last p us z le there = record {
  long = refl;
  more = omega arith;
  flows = λ w b f below l k.
      let e = flows_none p f z in
      let m : taken p ≡ 13 * p.packet + 0 = omega arith in
      kept_there head lag first last p.packet w b us (rw m at k) (subst (λ (q : Pending). Flows w b head q us) e f) le there;
}
