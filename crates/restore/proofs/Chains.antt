-- What is promised of restoring and describing holds of any calls that promise the definitions. Assumes nothing.
use Rattle.std.specs.Prelude.{Some}
use mathlib.Core.Path.{◌≡◌, refl, sym, ap, ◌∙◌}
use mathlib.Core.Logic.{◌↔◌, ◌⊎◌, inl, inr}
use mathlib.Core.Bool.{Bool}
use mathlib.Core.List.{List, []}
use Prim.Native.Nat.{ℕ, suc, ◌+◌, ◌-◌, ◌≤◌, ◌<◌}
use native.Mathlib.Omega.{arith}
use lib.Dec.{ltb}
use lib.ListN.{length}
use borrow.Author.Tests.{ltb-false}
use Rattle.refusal.specs.Answer.{Answer, gives, refused, Verdict, pass, ◌▷◌, guard, map_answer}
use Rattle.refusal.proofs.Laws.{never_refused, writes_refused, guard_passed}
use Rattle.refusal.proofs.Laws as refusals
use Rattle.ump.specs.Packet.{sysex8, joined}
use Rattle.ump.specs.Packing.{words_for}
use Rattle.ump.specs.Limits.{most_words}
use Rattle.ump.specs.Edits.{Patch, replaced}
use Rattle.store.specs.Store.{Dump, delta, dumps_of, sound, held}
use Rattle.store.proofs.Checks.{sound_good}
use Rattle.chain.specs.Walk.{base_of, comes, InRing, IsMissing}
use Rattle.chain.specs.Restore.{Payload, exceeds, outside, rebuilt, restored_by, restored, laid_out, answered, restore, Description, unlimited, sizes, largest, described, describe}
use Rattle.chain.specs.Chained.{SameDumps, Reencoded, Foot, Restorer, Describer, Chained, PromisedChain}
use Rattle.chain.proofs.Walks as walks
use Rattle.chain.proofs.Walks.{End, ring, missing, rests, walk, comes_join, comes_base, ring_comes, over_ring, endless, restored_ring, ring_restored, restored_more, begun}
use Rattle.chain.proofs.Making.{given_room}
use Rattle.chain.proofs.Orders.{restored-held, described_held, shuffled_length, shuffled_twice, shuffled_held}
use Rattle.chain.proofs.Needs.{roomed_is, given_either, refused_either, needs_enough, needs_all, restored_bottom}
use Rattle.restore.proofs.Groups.{restore_is, restore_unsound}

-- ---- the call

-- a refusal keeps the words
pub restore_keeps : (store : List ℕ) (n : ℕ) (words : List ℕ) {number place : ℕ} {left : List ℕ}
    → ◌≡◌ {A = Answer ℕ × List ℕ} (refused number place, left) (restore store n words) → left ≡ words
unfolding restore
restore_keeps store n words e =
    (writes_refused (guard (ltb most_words (length words)) 1 0 ▷ sound store ▷ begun (exceeds (length words)) (dumps_of store) n) words _ _ (sym e)).1

-- a restore that is accepted
pub record Accepted (store : List ℕ) (n : ℕ) (words : List ℕ) (len : ℕ) (left : List ℕ) : Type 0 where
  pub payload : Payload
  pub lent : length words ≤ most_words
  pub is_sound : sound store ≡ pass
  pub is : begun (exceeds (length words)) (dumps_of store) n ≡ gives payload
  pub length_is : words_for sysex8 (length payload.bytes) ≡ len
  pub left_is : laid_out (length words) payload ≡ left

after_pass : {A : Type 0} (v : Verdict) (a : Answer A) {x : A} → v ▷ a ≡ gives x → (v ≡ pass) × (a ≡ gives x)
after_pass (gives u) a e = (refl, e)
after_pass (refused number place) a e = never_refused e

pub accepted : (store : List ℕ) (n : ℕ) (words : List ℕ) {len : ℕ} {left : List ℕ} → (gives len, left) ≡ restore store n words
    → Accepted store n words len left
unfolding restore
accepted store n words {len} {left} e = go (guard (ltb most_words (length words)) 1 0 ▷ sound store ▷ inner) refl e
  where
    inner : Answer Payload
    inner = begun (exceeds (length words)) (dumps_of store) n

    go : (v : Answer Payload) → guard (ltb most_words (length words)) 1 0 ▷ sound store ▷ inner ≡ v → (gives len, left) ≡ answered words v
        → Accepted store n words len left
    go (refused number place) q h = refusals.never_both (ap (λ (o : Answer ℕ × List ℕ). o.0) h)
    go (gives payload) q h =
        let a = after_pass (guard (ltb most_words (length words)) 1 0) (sound store ▷ inner) q in
        let b = after_pass (sound store) inner a.1 in
        let first : gives len ≡ gives (words_for sysex8 (length payload.bytes)) = ap (λ (o : Answer ℕ × List ℕ). o.0) h in
        record {
          payload = payload;
          lent = ltb-false most_words (length words) (guard_passed (ltb most_words (length words)) 1 0 a.0);
          is_sound = b.0;
          is = b.1;
          length_is = cc;
          left_is = sym (ap (λ (o : Answer ℕ × List ℕ). o.1) h);
        }

-- ---- a ring of any length

pub reencoded_ring : (ds : List Dump) (n : ℕ) → Reencoded ds n → (m steps : ℕ) → comes ds steps m ≡ Some n → InRing ds m
reencoded_ring ds n r m steps c =
    record {
      earlier = steps;
      later = steps + suc r.steps;
      number = n;
      before = omega arith;
      passed = c;
      again = comes_join ds m steps (suc r.steps) n n c (comes_base ds n r.steps r.is_held ∙ r.descends);
    }

-- ---- a delta and its base

module _ (too_long : ℕ → Bool) (ds : List Dump) (n : ℕ) {number base : ℕ} {patches : List Patch}
    (q : held ds n ≡ Some (delta number base patches)) where
  -- one count less is enough for the base
  pub base_begun : restored too_long ds (length ds) base ≡ begun too_long ds base
  base_begun = go (walk ds (length ds) base) refl
    where
      ended : (walk ds (length ds) base ≡ ring → ⊥) → restored too_long ds (length ds) base ≡ begun too_long ds base
      ended h =
          let one : length ds + 1 ≡ suc (length ds) = omega arith in
          sym (restored_more too_long ds (length ds) base 1 h) ∙ ap (λ (x : ℕ). restored too_long ds x base) one

      go : (e : End) → walk ds (length ds) base ≡ e → restored too_long ds (length ds) base ≡ begun too_long ds base
      go ring w =
          let r = over_ring ds n _ (comes_base ds n (length ds) q ∙ ring_comes ds (length ds) base w) in
          let v = endless ds n r (suc (suc (length ds))) in
          let s = over_ring ds base v.middle (sym (comes_base ds n (suc (length ds)) q) ∙ v.first) in
          restored_ring too_long ds (length ds) base w ∙ sym (ring_restored too_long ds (suc (length ds)) base s)
      go missing w = ended (λ e. let z : ◌≡◌ {A = ℕ} 0 1 = cc in absurd (omega arith))
      go rests w = ended (λ e. let z : ◌≡◌ {A = ℕ} 0 1 = cc in absurd (omega arith))

-- a delta without edits
module _ (too_long : ℕ → Bool) (ds : List Dump) where
  rebuilt-bare : (left b : ℕ) → rebuilt too_long [] (restored too_long ds left b) ≡ restored too_long ds left b
  unfolding rebuilt outside replaced joined
  rebuilt-bare left b = go (restored too_long ds left b) refl
    where
      go : (a : Answer Payload) → restored too_long ds left b ≡ a → rebuilt too_long [] a ≡ a
      go (refused k l) q = refl
      go (gives p) q = roomed_is too_long p (given_room too_long ds left b q)

  bare-same : (n : ℕ) {number base : ℕ} → held ds n ≡ Some (delta number base []) → begun too_long ds n ≡ begun too_long ds base
  unfolding restored
  bare-same n {base = base} q =
      ap (restored_by too_long (λ b. restored too_long ds (length ds) b)) q ∙ rebuilt-bare (length ds) base ∙ base_begun too_long ds n q

pub bare-restore : (store : List ℕ) (n : ℕ) {number base : ℕ} (words : List ℕ) → held (dumps_of store) n ≡ Some (delta number base [])
    → restore store n words ≡ restore store base words
unfolding restore
bare-restore store n words q = rw (bare-same (exceeds (length words)) (dumps_of store) n q)

-- ---- the dumps in another order

module _ {store other : List ℕ} (same : SameDumps store other) where
  same_sound : sound store ≡ sound other
  unfolding sound
  same_sound = rw (same.form, shuffled_twice same.dumps, shuffled_length same.dumps)

  module _ (passes : sound store ≡ pass) where
    same-held : (m : ℕ) → held (dumps_of store) m ≡ held (dumps_of other) m
    same-held = shuffled_held same.dumps (sound_good store passes).once

    same_begun : (too_long : ℕ → Bool) (n : ℕ) → begun too_long (dumps_of store) n ≡ begun too_long (dumps_of other) n
    same_begun too_long n =
        restored-held (dumps_of store) (dumps_of other) same-held too_long (suc (length (dumps_of store))) n
        ∙ ap (λ (x : ℕ). restored too_long (dumps_of other) (suc x) n) (shuffled_length same.dumps)

    same_described : (n : ℕ)
        → described (dumps_of store) (suc (length (dumps_of store))) n ≡ described (dumps_of other) (suc (length (dumps_of other))) n
    same_described n =
        described_held (dumps_of store) (dumps_of other) same-held (suc (length (dumps_of store))) n
        ∙ ap (λ (x : ℕ). described (dumps_of other) (suc x) n) (shuffled_length same.dumps)

  -- behind the check of the store
  behind : {A : Type 0} (v : Verdict) {a b : Answer A} → sound store ≡ v → (sound store ≡ pass → a ≡ b) → v ▷ a ≡ v ▷ b
  behind (gives u) q h = h q
  behind (refused k l) q h = refl

  pub order_restore : (n : ℕ) (words : List ℕ) → restore store n words ≡ restore other n words
  unfolding restore
  order_restore n words =
      ap (λ (a : Answer Payload). answered words (guard (ltb most_words (length words)) 1 0 ▷ a))
      (behind (sound store) refl (λ p. same_begun p (exceeds (length words)) n)
      ∙ ap (λ (v : Verdict). v ▷ begun (exceeds (length words)) (dumps_of other) n) same_sound)

  pub order_describe : (n : ℕ) → describe store n ≡ describe other n
  unfolding describe
  order_describe n =
      behind (sound store) refl (λ p. same_described p n)
      ∙ ap (λ (v : Verdict). v ▷ described (dumps_of other) (suc (length (dumps_of other))) n) same_sound

-- ---- describing

abbrev say : List Dump → ℕ → Payload → Description
say ds n payload =
    record {
      base = base_of (held ds n);
      group = payload.group;
      id = payload.id;
      size = length payload.bytes;
      words = words_for sysex8 (largest (sizes ds (suc (length ds)) n));
      steps = length (sizes ds (suc (length ds)) n) - 1;
    }

-- what a description says, and of what
pub record Told (store : List ℕ) (n : ℕ) (d : Description) : Type 0 where
  pub passes : sound store ≡ pass
  pub payload : Payload
  pub is : begun unlimited (dumps_of store) n ≡ gives payload
  pub base : d.base ≡ base_of (held (dumps_of store) n)
  pub group : d.group ≡ payload.group
  pub id : d.id ≡ payload.id
  pub size : d.size ≡ length payload.bytes
  pub words : d.words ≡ words_for sysex8 (largest (sizes (dumps_of store) (suc (length (dumps_of store))) n))
  pub steps : d.steps ≡ length (sizes (dumps_of store) (suc (length (dumps_of store))) n) - 1

pub told : (store : List ℕ) (n : ℕ) (d : Description) → describe store n ≡ gives d → Told store n d
unfolding describe described
told store n d e = from (sound store) (begun unlimited (dumps_of store) n) refl refl e
  where
    from : (v : Verdict) (a : Answer Payload) → sound store ≡ v → begun unlimited (dumps_of store) n ≡ a
        → v ▷ map_answer (say (dumps_of store) n) a ≡ gives d → Told store n d
    from (refused k l) a p q h = never_refused h
    from (gives u) (refused k l) p q h = never_refused h
    from (gives u) (gives payload) p q h =
        let same : d ≡ say (dumps_of store) n payload = cc in
        record {
          passes = p;
          payload = payload;
          is = q;
          base = ap (λ (x : Description). x.base) same;
          group = ap (λ (x : Description). x.group) same;
          id = ap (λ (x : Description). x.id) same;
          size = ap (λ (x : Description). x.size) same;
          words = ap (λ (x : Description). x.words) same;
          steps = ap (λ (x : Description). x.steps) same;
        }

pub told_foot : {store : List ℕ} {n : ℕ} {d : Description} → Told store n d → Foot (dumps_of store) n d
told_foot {store} {n} t =
    let b = restored_bottom unlimited (dumps_of store) (suc (length (dumps_of store))) n t.is in
    record {
      walk = b.resting;
      base = t.base;
      steps = t.steps ∙ sym b.steps_are;
      group = t.group ∙ sym b.group_is;
      id = t.id ∙ sym b.id_is;
    }

describe_refused : (store : List ℕ) (n : ℕ) {number place : ℕ} → describe store n ≡ refused number place
    → (sound store ≡ refused number place) ⊎ ((sound store ≡ pass) × (begun unlimited (dumps_of store) n ≡ refused number place))
unfolding describe described
describe_refused store n {number} {place} e = from (sound store) (begun unlimited (dumps_of store) n) refl refl e
  where
    from : (v : Verdict) (a : Answer Payload) → sound store ≡ v → begun unlimited (dumps_of store) n ≡ a
        → v ▷ map_answer (say (dumps_of store) n) a ≡ refused number place
        → (sound store ≡ refused number place) ⊎ ((sound store ≡ pass) × (begun unlimited (dumps_of store) n ≡ refused number place))
    from (refused k l) a p q h = inl (p ∙ cc)
    from (gives u) (refused k l) p q h = inr (p, q ∙ cc)
    from (gives u) (gives payload) p q h = refusals.never_both h

-- ---- of any calls that promise the definitions

module _ {Restores : Restorer} {Describes : Describer} (promised : PromisedChain Restores Describes) where
  module _ {store : List ℕ} {n : ℕ} {words : List ℕ} {answer : Answer ℕ} {left : List ℕ} (c : Restores store n words answer left)
      (passes : sound store ≡ pass) (short : length words ≤ most_words) where
    abbrev got : Answer Payload
    got = begun (exceeds (length words)) (dumps_of store) n

    is : ◌≡◌ {A = Answer ℕ × List ℕ} (answer, left) (answered words got)
    is = promised.restores c ∙ sym (restore_is store n words short passes)

    answer_is : answer ≡ (answered words got).0
    answer_is = ap (λ (o : Answer ℕ × List ℕ). o.0) is

    refused_got : {number place : ℕ} → answer ≡ refused number place → got ≡ refused number place
    refused_got e = (writes_refused got words _ _ (sym is ∙ ap (λ a. (a, left)) e)).0

    got_refused : {number place : ℕ} → got ≡ refused number place → (answer ≡ refused number place) × (left ≡ words)
    got_refused e = (
      answer_is ∙ ap (λ (a : Answer Payload). (answered words a).0) e,
      ap (λ (o : Answer ℕ × List ℕ). o.1) is ∙ ap (λ (a : Answer Payload). (answered words a).1) e,
    )

    got_given : {p : Payload} → got ≡ gives p → answer ≡ gives (words_for sysex8 (length p.bytes))
    got_given e = answer_is ∙ ap (λ (a : Answer Payload). (answered words a).0) e

    ring_exact : (answer ≡ refused 25 0) ↔ InRing (dumps_of store) n
    ring_exact = (
      λ e. walks.start_ring (exceeds (length words)) (dumps_of store) n 0 (refused_got e),
      λ r. (got_refused (walks.ring_start (exceeds (length words)) (dumps_of store) n r)).0,
    )

    missing_exact : (answer ≡ refused 24 0) ↔ IsMissing (dumps_of store) n
    missing_exact = (
      λ e. walks.start_missing (exceeds (length words)) (dumps_of store) n 0 (refused_got e),
      λ m. (got_refused (walks.missing_start (exceeds (length words)) (dumps_of store) n m)).0,
    )

    words_exact : {d : Description} → Told store n d
        → (d.words ≤ length words → answer ≡ gives (words_for sysex8 d.size)) × (length words < d.words → answer ≡ refused 14 0)
    words_exact {d} t = (
      λ h. got_given (needs_enough (length words) (dumps_of store) (suc (length (dumps_of store))) n t.is (omega (arith, h, t.words)))
          ∙ ap (λ (k : ℕ). gives (words_for sysex8 k)) (sym t.size),
      λ h. less h (given_either (exceeds (length words)) (dumps_of store) (suc (length (dumps_of store))) n t.is),
    )
      where
        less : length words < d.words → (got ≡ gives t.payload) ⊎ (got ≡ refused 14 0) → answer ≡ refused 14 0
        less h (inl g) =
            let f = (needs_all (length words) (dumps_of store) (suc (length (dumps_of store))) n g).1 in
            absurd (omega (arith, f, h, t.words))
        less h (inr g) = (got_refused g).0

    refused_exact : {number place : ℕ} → begun unlimited (dumps_of store) n ≡ refused number place
        → (answer ≡ refused number place) ⊎ ((number ≡ 13) × (answer ≡ refused 14 0))
    refused_exact {number} {place} e = from (refused_either (exceeds (length words)) (dumps_of store) (suc (length (dumps_of store))) n e)
      where
        from : (got ≡ refused number place) ⊎ ((number ≡ 13) × (got ≡ refused 14 0))
            → (answer ≡ refused number place) ⊎ ((number ≡ 13) × (answer ≡ refused 14 0))
        from (inl g) = inl (got_refused g).0
        from (inr g) = inr (g.0, (got_refused g.1).0)

  -- two calls whose definitions agree
  pub alike : {store other : List ℕ} {n m : ℕ} {words : List ℕ} {answer then : Answer ℕ} {left after : List ℕ}
      → Restores store n words answer left → Restores other m words then after → restore store n words ≡ restore other m words
      → (answer ≡ then) × (left ≡ after)
  alike {answer = answer} {then} {left} {after} c d e =
      let same : ◌≡◌ {A = Answer ℕ × List ℕ} (answer, left) (then, after) = promised.restores c ∙ e ∙ sym (promised.restores d) in
      (ap (λ (o : Answer ℕ × List ℕ). o.0) same, ap (λ (o : Answer ℕ × List ℕ). o.1) same)

  said_refused : {store : List ℕ} {n number place : ℕ} {words : List ℕ} {answer : Answer ℕ} {left : List ℕ} → length words ≤ most_words
      → Restores store n words answer left
      → (sound store ≡ refused number place) ⊎ ((sound store ≡ pass) × (begun unlimited (dumps_of store) n ≡ refused number place))
      → (answer ≡ refused number place) ⊎ ((number ≡ 13) × (answer ≡ refused 14 0))
  said_refused {store} {n} {words = words} short c (inl u) =
      inl (ap (λ (o : Answer ℕ × List ℕ). o.0) (promised.restores c ∙ sym (restore_unsound store n words short u)))
  said_refused short c (inr u) = refused_exact c u.0 short u.1

  pub chained : Chained Restores Describes
  chained =
      record {
        answers = λ store n. (
          λ words. record { answer = (restore store n words).0; left = (restore store n words).1; call = promised.can_restore refl },
          record { answer = describe store n; left = tt; call = promised.can_describe refl },
        );
        refusal_keeps = λ {store} {n} {words} c. restore_keeps store n words (promised.restores c);
        some_end = walks.walk-one;
        one_end = λ ds n. (walks.never_both ds n, (λ r w. walks.rests_no_ring ds n w r), (λ m w. walks.rests_no_missing ds n w m));
        ring_exactly = λ c passes short. ring_exact c passes short;
        missing_exactly = λ c passes short. missing_exact c passes short;
        accepted_rests = λ {store} {n} {words} c.
            let a = accepted store n words (promised.restores c) in
            (restored_bottom (exceeds (length words)) (dumps_of store) (suc (length (dumps_of store))) n a.is).resting;
        re_encoded = λ {store} {n} passes r m steps come {words} short c.
            got_refused c passes short
            (ring_restored (exceeds (length words)) (dumps_of store) (suc (length (dumps_of store))) m
            (reencoded_ring (dumps_of store) n r m steps come));
        bare = λ {store} {n} q {words} c d. alike c d (bare-restore store n words q);
        any_order = λ same {n} {words} c d. alike c d (order_restore same n words);
        any_order_described = λ same {n} c d. promised.describes c ∙ order_describe same n ∙ sym (promised.describes d);
        described_foot = λ {store} {n} {d} c. told_foot (told store n d (sym (promised.describes c)));
        described_words = λ {store} {n} {d} c short r.
            let t = told store n d (sym (promised.describes c)) in
            words_exact r t.passes short t;
        described_refused = λ {store} {n} c short r. said_refused short r (describe_refused store n (sym (promised.describes c)));
      }
