-- Why the answer is no: the packet that is named holds the first byte that differs. Assumes nothing.
use mathlib.Core.Path.{◌≡◌, refl, sym, ap, ◌∙◌, subst}
use mathlib.Core.Bool.{Bool, true, false, not, ◌||◌}
use mathlib.Core.List.{List}
use Prim.Native.Nat.{ℕ, suc, ◌+◌, ◌-◌, ◌*◌, ◌/◌, ◌≤◌, ◌<◌}
use native.Mathlib.Omega.{arith}
use lib.Dec.{eqb, ltb}
use lib.ListN.{length, get_or, get_or-append}
use borrow.Author.Tests.{ltb-true, ltb-false, eqb-true, eqb-false, eq-eqb, not-false}
use Rattle.refusal.specs.Answer.{gives, refused, Verdict, pass, ◌▷◌, guard}
use Rattle.refusal.proofs.Laws.{never_both, guard_passed}
use Rattle.ump.specs.Packet.{Shape, group_at, id_at, payload_at, joined, payload}
use Rattle.ump.specs.Check.{first_where, same, sweep, check, payload_of}
use Rattle.ump.proofs.Joined.{joined_add}
use Rattle.ump.proofs.First.{never, Side, under, over, side, first_at, first_before}
use Rattle.ump.proofs.Checks.{same_refl, same_eq, or_left, or_right}
use Rattle.carries.specs.Carries.{other_bytes, carries}
use Rattle.carries.specs.Senders as senders
use Rattle.carries.specs.Senders.{FirstOther, Other, group_differs, id_differs, byte_differs, sizes_differ, Reason}
use Rattle.carries.proofs.Likeness.{like_at, Differ, differ, unlike-append}
use Rattle.carries.proofs.Carrying.{none_differ, carried}

-- ---- the packet that is named

module _ (s : Shape) (words : List ℕ) (n : ℕ) (bytes : List ℕ) (p : ℕ) (h : p < n)
    (none : (q : ℕ) → q < p → other_bytes s words bytes q ≡ false) (here : other_bytes s words bytes p ≡ true) where
  abbrev front : List ℕ
  front = payload s words p

  abbrev through : List ℕ
  through = payload s words (suc p)

  -- with this packet the payloads differ, first at some place
  found : Differ through bytes
  unfolding payload joined other_bytes
  found = differ through bytes (unlike-append (joined (payload_at s words) p) (payload_at s words p) bytes ∙ rw (none_differ s words bytes p none, here))

  grown : (i : ℕ) → i < length front → get_or through i 0 ≡ get_or front i 0
  unfolding payload joined
  grown i l = get_or-append (joined (payload_at s words) p) (payload_at s words p) 0 i l

  -- which is none before it
  not_before : length front ≤ found.at
  not_before = go (side found.at (length front))
    where
      go : Side found.at (length front) → length front ≤ found.at
      go (over k e) = k
      go (under k e) = absurd (found.differs (grown found.at k ∙ like_at front bytes (none_differ s words bytes p none) found.at k found.in_second))

  -- a byte up to this packet, in all packets
  among : (i : ℕ) → i < length through → get_or (payload s words n) i 0 ≡ get_or through i 0
  unfolding payload
  among i k =
      let rest : List ℕ = joined (λ j. payload_at s words (suc p + j)) (n - suc p) in
      let e : n ≡ suc p + (n - suc p) = omega arith in
      ap (λ (m : ℕ). get_or (joined (payload_at s words) m) i 0) e
      ∙ ap (λ (l : List ℕ). get_or l i 0) (joined_add (payload_at s words) (suc p) (n - suc p))
      ∙ get_or-append through rest 0 i k

  first_other : FirstOther s words n bytes p
  first_other =
      record {
        index = found.at;
        not_before = not_before;
        in_packet = found.in_first;
        in_payload = found.in_second;
        differs = λ e. found.differs (sym (among found.at found.in_first) ∙ e);
        same_before = λ i l. among i (omega (arith, found.in_first)) ∙ found.before i l;
        beginning = carried s words bytes p none (omega (arith, not_before, found.in_second));
      }

-- ---- one check after the other

data Stops (v later : Verdict) (number place : ℕ) : Type 0 where
  now : v ≡ refused number place → Stops v later number place
  then : v ≡ pass → later ≡ refused number place → Stops v later number place

stops : (v later : Verdict) {number place : ℕ} → v ▷ later ≡ refused number place → Stops v later number place
stops (gives u) later e = then refl e
stops (refused m at) later e = now e

guarded : (b : Bool) {m at number place : ℕ} → guard b m at ≡ refused number place → (b ≡ true) × (m ≡ number) × (at ≡ place)
guarded true e = (refl, cc, cc)
guarded false e = never_both e

module _ (s : Shape) (words : List ℕ) (len : ℕ) (bytes : List ℕ) (group : ℕ) (id : List ℕ) where
  abbrev n : ℕ
  n = len / s.words

  abbrev Why : ℕ → ℕ → Type 0
  Why = Reason s words len bytes group id

  abbrev differing : ℕ → Bool
  differing = other_bytes s words bytes

  abbrev each : Verdict
  each = sweep s (λ p. 26) differing n

  abbrev heads : Bool
  heads = not (eqb (group_at s words 0) group) || not (same (id_at s words 0) id)

  abbrev sizes : Bool
  sizes = not (eqb (length (payload_of s words len)) (length bytes))

  moved : {m at number place : ℕ} → m ≡ number → at ≡ place → Why m at → Why number place
  moved {m} {place = place} e f w = subst (λ (k : ℕ). Why k place) e (subst (Why m) f w)

  module _ (ok : check s words len ≡ pass) (few : group ≤ 15) where
    abbrev Otherwise : ℕ → Type 0
    Otherwise = Other s words len bytes group id

    by_head : heads ≡ true → Otherwise 0
    by_head t = groups (eqb (group_at s words 0) group) refl t
      where
        ids : group_at s words 0 ≡ group → (b : Bool) → same (id_at s words 0) id ≡ b → not b ≡ true → Otherwise 0
        ids g true q t = never t
        ids g false q t = id_differs g (λ i. never (sym q ∙ ap (λ (x : List ℕ). same x id) i ∙ same_refl id))

        groups : (b : Bool) → eqb (group_at s words 0) group ≡ b → (not b || not (same (id_at s words 0) id)) ≡ true → Otherwise 0
        groups true q t = ids (eqb-true _ _ q) (same (id_at s words 0) id) refl t
        groups false q t = group_differs (eqb-false _ _ q)

    module _ (g : group_at s words 0 ≡ group) (i : id_at s words 0 ≡ id) where
      by_packet : ltb (first_where differing n) n ≡ true → Otherwise (s.words * first_where differing n)
      by_packet t =
          let l = ltb-true (first_where differing n) n t in
          byte_differs g i (first_where differing n) l (first_other s words n bytes (first_where differing n) l (first_before differing n) (first_at differing n l))

      by_size : ltb (first_where differing n) n ≡ false → sizes ≡ true → Otherwise 0
      by_size t z =
          let l = ltb-false (first_where differing n) n t in
          sizes_differ g i
          (like_at (payload s words n) bytes (none_differ s words bytes n (λ p k. first_before differing n p (omega arith))))
          (λ e. never (sym (ap not (eq-eqb (length (payload_of s words len)) (length bytes) e)) ∙ z))

  pub reason : {number place : ℕ} → carries s words len bytes group id ≡ refused number place → Why number place
  unfolding carries
  reason {number} {place} e = at_check (stops (check s words len) (guard (ltb 15 group) 16 0 ▷ guard heads 26 0 ▷ each ▷ guard sizes 26 0) e)
    where
      at_size : check s words len ≡ pass → group ≤ 15 → group_at s words 0 ≡ group → id_at s words 0 ≡ id → ltb (first_where differing n) n ≡ false
          → guard sizes 26 0 ≡ refused number place → Why number place
      at_size ok f g i t c = let x = guarded sizes c in moved x.1 x.2 (senders.other ok f (by_size ok f g i t x.0))

      at_packets : check s words len ≡ pass → group ≤ 15 → group_at s words 0 ≡ group → id_at s words 0 ≡ id
          → Stops each (guard sizes 26 0) number place → Why number place
      at_packets ok f g i (now c) = let x = guarded (ltb (first_where differing n) n) c in moved x.1 x.2 (senders.other ok f (by_packet ok f g i x.0))
      at_packets ok f g i (then c e) = at_size ok f g i (guard_passed (ltb (first_where differing n) n) _ _ c) e

      at_heads : check s words len ≡ pass → group ≤ 15 → Stops (guard heads 26 0) (each ▷ guard sizes 26 0) number place → Why number place
      at_heads ok f (now c) = let x = guarded heads c in moved x.1 x.2 (senders.other ok f (by_head ok f x.0))
      at_heads ok f (then c e) =
          let h = guard_passed heads 26 0 c in
          at_packets ok f
          (eqb-true _ _ (not-false _ (or_left (not (eqb (group_at s words 0) group)) _ h)))
          (same_eq _ _ (not-false _ (or_right (not (eqb (group_at s words 0) group)) (not (same (id_at s words 0) id)) h)))
          (stops each (guard sizes 26 0) e)

      at_field : check s words len ≡ pass → Stops (guard (ltb 15 group) 16 0) (guard heads 26 0 ▷ each ▷ guard sizes 26 0) number place → Why number place
      at_field ok (now c) = let x = guarded (ltb 15 group) c in moved x.1 x.2 (senders.no_group ok (ltb-true 15 group x.0))
      at_field ok (then c e) = at_heads ok (ltb-false 15 group (guard_passed (ltb 15 group) 16 0 c)) (stops (guard heads 26 0) (each ▷ guard sizes 26 0) e)

      at_check : Stops (check s words len) (guard (ltb 15 group) 16 0 ▷ guard heads 26 0 ▷ each ▷ guard sizes 26 0) number place → Why number place
      at_check (now c) = senders.not_valid c
      at_check (then c e) = at_field c (stops (guard (ltb 15 group) 16 0) (guard heads 26 0 ▷ each ▷ guard sizes 26 0) e)
