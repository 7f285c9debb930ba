-- A yes exactly for a valid message with this payload, group and stream id; each case of the call. Assumes nothing.
use mathlib.Core.Path.{◌≡◌, refl, sym, ap, ◌∙◌}
use mathlib.Core.Bool.{Bool, true, false, not, cond, ◌||◌}
use mathlib.Core.List.{List, [], ◌∷◌, ◌++◌}
use Prim.Native.Nat.{ℕ, zero, suc, ◌+◌, ◌-◌, ◌*◌, ◌/◌, ◌≤◌, ◌<◌}
use native.Mathlib.Omega.{arith}
use lib.Dec.{eqb, ltb}
use lib.ListN.{length, take, drop}
use lib.Seq.{take-length, drop_at}
use borrow.Author.Tests.{lt-ltb, le-ltb, ltb-true, ltb-false, eq-eqb, ne_eqb, eqb-true, not-false}
use Rattle.std.specs.Prelude.{Some, None}
use Rattle.refusal.specs.Answer.{gives, refused, pass, ◌▷◌, guard}
use Rattle.refusal.proofs.Laws.{guard_passed, pass_both, given_passes}
use Rattle.ump.specs.Packet.{Shape, sysex8, group_at, id_at, payload_at, joined, payload}
use Rattle.ump.specs.Check.{first_where, same, sweep, check, checked, payload_of, Summary, summary}
use Rattle.ump.proofs.First.{first_le}
use Rattle.ump.proofs.Joined.{joined_around}
use Rattle.ump.proofs.Checks.{sweep_pass, pass_sweep, or_left, or_right, same_refl, same_eq, valid_passes, passes_valid}
use Rattle.ump.proofs.Splicing.{group_fits}
use Rattle.message.proofs.Checked.{Taken, taken}
use Rattle.carries.specs.Carries.{unlike, other_bytes, carries}
use Rattle.carries.specs.Senders.{Carries}
use Rattle.carries.specs.Steps.{first_found}
use Rattle.carries.proofs.Likeness.{like_front, like_is, unlike-append}

-- ---- the packets

module _ (s : Shape) (words bytes : List ℕ) where
  -- where no packet differs, the packets together do not,
  pub none_differ : (n : ℕ) → ((p : ℕ) → p < n → other_bytes s words bytes p ≡ false) → unlike (payload s words n) bytes ≡ false
  unfolding payload joined other_bytes
  none_differ zero h = refl
  none_differ (suc n) h =
      unlike-append (joined (payload_at s words) n) (payload_at s words n) bytes ∙ rw (none_differ n (λ p k. h p (omega arith)), h n (omega arith))

  -- and carry the front of a payload that is long enough
  pub carried : (n : ℕ) → ((p : ℕ) → p < n → other_bytes s words bytes p ≡ false) → length (payload s words n) ≤ length bytes
      → payload s words n ≡ take (length (payload s words n)) bytes
  carried n h l = like_is (payload s words n) bytes (none_differ n h) l

  pub other_is : (p at : ℕ) → at ≡ length (payload s words p) → unlike (payload_at s words p) (drop at bytes) ≡ other_bytes s words bytes p
  unfolding other_bytes
  other_is p at e = rw e

  -- a packet of the payload itself does not differ
  none_other : (n : ℕ) → payload s words n ≡ bytes → (p : ℕ) → p < n → other_bytes s words bytes p ≡ false
  unfolding payload other_bytes
  none_other n e p h =
      let front : List ℕ = joined (payload_at s words) p in
      let rest : List ℕ = joined (λ i. payload_at s words (suc p + i)) (n - suc p) in
      rw (← e, joined_around (payload_at s words) n p h, drop_at front (payload_at s words p ++ rest) (length front) refl)
      (like_front (payload_at s words p) rest)

-- ---- yes exactly if

module _ (s : Shape) (words : List ℕ) (len : ℕ) (bytes : List ℕ) (group : ℕ) (id : List ℕ) where
  pub yes_only : carries s words len bytes group id ≡ pass → Carries s words len bytes group id
  unfolding carries
  yes_only e =
      let n : ℕ = len / s.words in
      let field = guard (ltb 15 group) 16 0 in
      let heads = guard (not (eqb (group_at s words 0) group) || not (same (id_at s words 0) id)) 26 0 in
      let each = sweep s (λ p. 26) (other_bytes s words bytes) n in
      let sizes = guard (not (eqb (length (payload_of s words len)) (length bytes))) 26 0 in
      let a = pass_both (check s words len) (field ▷ heads ▷ each ▷ sizes) e in
      let b = pass_both field (heads ▷ each ▷ sizes) a.1 in
      let c = pass_both heads (each ▷ sizes) b.1 in
      let d = pass_both each sizes c.1 in
      let h = guard_passed (not (eqb (group_at s words 0) group) || not (same (id_at s words 0) id)) 26 0 c.0 in
      let l : length (payload_of s words len) ≡ length bytes =
      eqb-true _ _ (not-false _ (guard_passed (not (eqb (length (payload_of s words len)) (length bytes))) 26 0 d.1)) in
      record {
        valid = passes_valid s words len a.0;
        payload_is =
            carried s words bytes n (pass_sweep s (λ p. 26) (other_bytes s words bytes) n d.0) (omega arith)
            ∙ ap (λ (k : ℕ). take k bytes) l
            ∙ take-length bytes;
        group_is = eqb-true _ _ (not-false _ (or_left (not (eqb (group_at s words 0) group)) _ h));
        id_is = same_eq _ _ (not-false _ (or_right (not (eqb (group_at s words 0) group)) (not (same (id_at s words 0) id)) h));
      }

  pub yes_if : Carries s words len bytes group id → carries s words len bytes group id ≡ pass
  unfolding carries
  yes_if c =
      rw (
        valid_passes s words len c.valid,
        le-ltb 15 group (omega (arith, group_fits s words 0, c.group_is)),
        eq-eqb (group_at s words 0) group c.group_is,
        ap (λ (x : List ℕ). same x id) c.id_is ∙ same_refl id,
        sweep_pass s (λ p. 26) (other_bytes s words bytes) (len / s.words) (none_other s words bytes (len / s.words) c.payload_is),
        eq-eqb (length (payload_of s words len)) (length bytes) (ap length c.payload_is),
      )

-- ---- the call, case by case

module _ (s : Shape) (words : List ℕ) (len : ℕ) (bytes : List ℕ) (group : ℕ) (id : List ℕ) where
  pub not_valid : {n p : ℕ} → check s words len ≡ refused n p → refused n p ≡ carries s words len bytes group id
  unfolding carries
  not_valid e = rw e

  module _ (ok : check s words len ≡ pass) where
    pub bad_field : 15 < group → refused 16 0 ≡ carries s words len bytes group id
    unfolding carries
    bad_field h = rw (ok, lt-ltb 15 group h)

    module _ (f : group ≤ 15) where
      pub other_group : (group_at s words 0 ≡ group → ⊥) → refused 26 0 ≡ carries s words len bytes group id
      unfolding carries
      other_group h = rw (ok, le-ltb 15 group f, ne_eqb (group_at s words 0) group h)

      module _ (g : group_at s words 0 ≡ group) where
        pub other_id : same (id_at s words 0) id ≡ false → refused 26 0 ≡ carries s words len bytes group id
        unfolding carries
        other_id h = rw (ok, le-ltb 15 group f, eq-eqb (group_at s words 0) group g, h)

        module _ (i : id_at s words 0 ≡ id) where
          -- group and id are those asked for: the packets decide, then the sizes
          pub the_rest : carries s words len bytes group id
              ≡ sweep s (λ p. 26) (other_bytes s words bytes) (len / s.words) ▷ guard (not (eqb (length (payload_of s words len)) (length bytes))) 26 0
          unfolding carries
          the_rest = rw (ok, le-ltb 15 group f, eq-eqb (group_at s words 0) group g, ap (λ (x : List ℕ). same x id) i ∙ same_refl id)

          module _ {p : ℕ} (q : p ≡ first_where (other_bytes s words bytes) (len / s.words)) where
            pub other_packet : p < len / s.words → refused 26 (s.words * p) ≡ carries s words len bytes group id
            other_packet h = sym (the_rest ∙ rw (← q, lt-ltb p (len / s.words) h))

            module _ (h : len / s.words ≤ p) where
              pub other_size : (length (payload_of s words len) ≡ length bytes → ⊥) → refused 26 0 ≡ carries s words len bytes group id
              other_size d = sym (the_rest ∙ rw (← q, le-ltb p (len / s.words) h, ne_eqb (length (payload_of s words len)) (length bytes) d))

              pub all_same : length (payload_of s words len) ≡ length bytes → pass ≡ carries s words len bytes group id
              all_same d = sym (the_rest ∙ rw (← q, le-ltb p (len / s.words) h, eq-eqb (length (payload_of s words len)) (length bytes) d))

-- two ids of one octet that differ
pub ids_differ : {a b : ℕ} {x : List ℕ} → x ≡ a ∷ [] → (a ≡ b → ⊥) → same x (b ∷ []) ≡ false
ids_differ {a} {b} e n = rw (e, ne_eqb a b n)

-- ---- what the check told: that it passed, and of what group, stream id and size

pub record Told (words : List ℕ) (len group id size : ℕ) : Type 0 where
  pub taken : Taken sysex8 words len size
  pub group_is : group_at sysex8 words 0 ≡ group
  pub id_is : id_at sysex8 words 0 ≡ id ∷ []

pub told : (words : List ℕ) (len : ℕ) {group id size all : ℕ} → checked sysex8 words len ≡ gives (summary group (id ∷ []) size all) → Told words len group id size
unfolding checked
told words len e =
    let g = given_passes (check sysex8 words len) e in
    record {
      taken = taken sysex8 words len e;
      group_is = ap (λ (m : Summary). m.group) g.1;
      id_is = ap (λ (m : Summary). m.id) g.1;
    }

-- ---- the first packet with another byte

module _ (test : ℕ → Bool) (n : ℕ) where
  pub found_here : {i : ℕ} → i < n → i ≡ first_where test n → Some i ≡ first_found test n
  found_here {i} l e = rw (← e, lt-ltb i n l)

  pub found_none : n ≡ first_where test n → None ≡ first_found test n
  found_none e = rw (← e, le-ltb n n (omega arith))

  found_is : {i : ℕ} → Some i ≡ first_found test n → (i ≡ first_where test n) × (i < n)
  found_is {i} e = go (ltb (first_where test n) n) refl e
    where
      go : (b : Bool) → ltb (first_where test n) n ≡ b → Some i ≡ cond b (Some (first_where test n)) None → (i ≡ first_where test n) × (i < n)
      go true t e = let k : i ≡ first_where test n = cc in (k, rw k (ltb-true _ _ t))
      go false t e = cc

  pub found_first : {i : ℕ} → Some i ≡ first_found test n → i ≡ first_where test n
  found_first e = (found_is e).0

  pub found_below : {i : ℕ} → Some i ≡ first_found test n → i < n
  found_below e = (found_is e).1

  pub found_not : None ≡ first_found test n → n ≡ first_where test n
  found_not e = go (ltb (first_where test n) n) refl e
    where
      go : (b : Bool) → ltb (first_where test n) n ≡ b → None ≡ cond b (Some (first_where test n)) None → n ≡ first_where test n
      go true t e = cc
      go false t e = omega (arith, ltb-false (first_where test n) n t, first_le test n)
