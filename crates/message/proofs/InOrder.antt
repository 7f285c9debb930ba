-- Packets that are all in order: what the check asks of their first words, and the faults and counts gathered. Assumes nothing.
use mathlib.Core.Path.{◌≡◌, refl, sym, ap, ◌∙◌}
use mathlib.Core.Bool.{Bool, true, false, not, ◌||◌}
use mathlib.Core.List.{List}
use Prim.Native.Nat.{ℕ, zero, suc, ◌+◌, ◌-◌, ◌*◌, ◌^◌, ◌≤◌, ◌<◌}
use native.Mathlib.Nat.{mul-zero, mul-one, mul-suc}
use native.Mathlib.Numerals.{add-one}
use native.Mathlib.Omega.{arith}
use lib.Dec.{eqb}
use lib.ListN.{length, get_or}
use borrow.Author.Tests.{eq-eqb, eqb-true, not-false, ltb-false, le-ltb}
use Rattle.std.specs.Prelude.{Some, None}
use Rattle.refusal.specs.Answer.{Verdict, gives, refused, pass, ◌▷◌}
use Rattle.refusal.proofs.Laws.{pass_both}
use Rattle.ump.specs.Word.{nibble}
use Rattle.ump.specs.Packet.{Shape, payload}
use Rattle.ump.specs.Packing.{status_for}
use Rattle.ump.specs.Check.{bad_type, bad_status, bad_count, bad_group, bad_id, status_number, check_packets}
use Rattle.ump.specs.Edits.{total}
use Rattle.ump.proofs.First.{none_more}
use Rattle.ump.proofs.Sizes.{status_inner, place_last}
use Rattle.ump.proofs.Checks.{sweep_pass, pass_sweep, both_pass, or_left, or_right}
use Rattle.message.specs.Scan.{Inside, size_to, faulty, given, in_order}
use Rattle.message.proofs.Sizes.{total_most, size-to}
use Rattle.message.proofs.Masks.{InStep, base_for, id_value, same_id, not_faulty, clear_in_step, in_step_clear}

module _ (s : Shape) (ws : List ℕ) (n : ℕ) where
  -- the first word of packet p, and whether it is at fault
  abbrev pub word_at : ℕ → ℕ
  word_at p = get_or ws (s.words * p) 0

  abbrev pub fault_at : ℕ → Bool
  fault_at p = faulty s (base_for s (get_or ws 0 0) + status_for n p * 2 ^ 20) (word_at p)

  abbrev pub count_in : ℕ → ℕ
  count_in p = nibble (word_at p) 3

  -- ---- faults and counts gathered

  -- what the pass knows at packet p: faults and counts of the packets before it and of the last
  pub record Gathered (last p : ℕ) (bad : Bool) (counts : ℕ) : Type 0 where
    pub clear : bad ≡ false → ((q : ℕ) → q < p → fault_at q ≡ false) × (fault_at last ≡ false)
    pub fault : bad ≡ true → (q : ℕ) × (q < n) × (fault_at q ≡ true)
    pub counts_are : counts ≡ total count_in p + count_in last

  -- the number that is wanted of the first packet, of one in the loop, and of the last
  pub fault_first : {status : ℕ} → status ≡ status_for n 0 → faulty s (base_for s (get_or ws 0 0) + status * 2 ^ 20) (get_or ws 0 0) ≡ fault_at 0
  fault_first e = rw (e, mul-zero s.words)

  pub fault_inner : (p : ℕ) → 0 < p → suc p < n → faulty s (base_for s (get_or ws 0 0) + 0x200000) (word_at p) ≡ fault_at p
  fault_inner p a b = rw (status_inner n p (λ e. omega arith) (λ e. omega arith) (λ e. omega arith))

  pub fault_last : (p : ℕ) → 0 < p → suc p ≡ n → faulty s (base_for s (get_or ws 0 0) + 0x300000) (word_at p) ≡ fault_at p
  unfolding status_for
  fault_last p a b = rw (place_last {A = ℕ} 0 1 2 3 n p (λ e. omega arith) (λ e. omega arith) b)

  -- the count of a packet that is not at fault, and of the first
  pub count_enough : (p : ℕ) → fault_at p ≡ false → s.bias ≤ count_in p
  count_enough p e = (not_faulty s (base_for s (get_or ws 0 0) + status_for n p * 2 ^ 20) (word_at p) e).1

  pub count_first : count_in 0 ≡ nibble (get_or ws 0 0) 3
  count_first = rw (mul-zero s.words)

  pub gathered_start : {last : ℕ} {bad : Bool} {counts : ℕ} → last < n → fault_at 0 ≡ false → bad ≡ fault_at last → counts ≡ count_in 0 + count_in last
      → Gathered last 1 bad counts
  unfolding total
  gathered_start {last} l z eb ec =
      record {
        clear = λ f. ((λ q h. let k : q ≡ 0 = omega arith in rw k z), sym eb ∙ f);
        fault = λ t. (last, l, sym eb ∙ t);
        counts_are = omega arith;
      }

  pub gathered_more : {last p : ℕ} {bad x : Bool} {counts y : ℕ} → Gathered last p bad counts → p < n → x ≡ fault_at p → y ≡ count_in p
      → Gathered last (p + 1) (bad || x) (counts + y)
  unfolding total
  gathered_more {last} {p} {bad} {x} i l ex ey =
      record {
        clear = λ f. let k = i.clear (or_left bad x f) in (none_more fault_at p k.0 (sym ex ∙ or_right bad x f), k.1);
        fault = go bad refl;
        counts_are = rw add-one (omega (arith, i.counts_are));
      }
    where
      go : (b : Bool) → bad ≡ b → (b || x) ≡ true → (q : ℕ) × (q < n) × (fault_at q ≡ true)
      go true e t = i.fault e
      go false e t = (p, l, sym ex ∙ t)

  -- at the end of the pass, where it gathered no fault
  pub gathered_all : {last p : ℕ} {bad : Bool} {counts : ℕ} → Gathered last p bad counts → p ≡ last → suc last ≡ n → bad ≡ false
      → ((q : ℕ) → q < n → fault_at q ≡ false) × (counts ≡ total count_in n)
  unfolding total
  gathered_all {last} {p} i e m f = (
    λ q l. none_more fault_at last (rw e at (i.clear f).0) (i.clear f).1 q (omega arith),
    i.counts_are ∙ rw (e, ← m),
  )

  pub gathered_small : {last p : ℕ} {bad : Bool} {counts : ℕ} → Gathered last p bad counts → counts ≤ 15 * p + 15
  gathered_small {p = p} i = omega (arith, i.counts_are, total_most count_in 15 p (λ j l. omega arith))

  counts_sum : (m : ℕ) → ((q : ℕ) → q < m → s.bias ≤ count_in q) → total count_in m ≡ s.bias * m + size_to s.words s.bias ws m
  unfolding size_to total
  counts_sum zero h = omega arith
  counts_sum (suc m) h = omega (arith, counts_sum m (λ q l. h q (omega arith)), h m (omega arith), mul-suc s.bias m)

  -- the counts reach what is taken away of them
  pub counts_reach : ((q : ℕ) → q < n → fault_at q ≡ false) → s.bias * n ≤ total count_in n
  counts_reach clear = omega (arith, counts_sum n (λ q l. count_enough q (clear q l)))

  -- ---- packets that pass

  module _ (d : s.ids ≤ 1) where
    equal : (a b : ℕ) → not (eqb a b) ≡ false → a ≡ b
    equal a b e = eqb-true a b (not-false (eqb a b) e)

    -- the id of packet p is that of packet 0
    pub id_at : (p : ℕ) → bad_id s ws p ≡ not (eqb (id_value s.ids (word_at p)) (id_value s.ids (get_or ws 0 0)))
    unfolding bad_id
    id_at p = rw (mul-zero s.words) (ap not (same_id s.ids d (word_at p) (get_or ws 0 0)))

    passes_in_step : check_packets s ws n ≡ pass → (p : ℕ) → p < n → InStep s (get_or ws 0 0) n p (word_at p)
    unfolding check_packets bad_type bad_status bad_count bad_group
    passes_in_step e p l =
        let e1 = pass_both _ _ e in
        let e2 = pass_both _ _ e1.1 in
        let e3 = pass_both _ _ e2.1 in
        let e4 = pass_both _ _ e3.1 in
        let k = pass_sweep s (λ p. 10) (bad_count s ws) n e3.0 p l in
        record {
          of_type = equal _ _ (pass_sweep s (λ p. 5) (bad_type s ws) n e1.0 p l);
          in_step = equal _ _ (pass_sweep s (status_number n) (bad_status s ws n) n e2.0 p l);
          enough = ltb-false _ _ (or_left _ _ k);
          fitting = ltb-false _ _ (or_right _ _ k);
          one_group = rw mul-zero at (equal _ _ (pass_sweep s (λ p. 11) (bad_group s ws) n e4.0 p l));
          one_id = equal _ _ (sym (id_at p) ∙ pass_sweep s (λ p. 12) (bad_id s ws) n e4.1 p l);
        }

    in_step_passes : ((p : ℕ) → p < n → InStep s (get_or ws 0 0) n p (word_at p)) → check_packets s ws n ≡ pass
    unfolding check_packets bad_type bad_status bad_count bad_group
    in_step_passes f =
        both_pass (sweep_pass s (λ p. 5) (bad_type s ws) n (λ p l. ap not (eq-eqb _ _ (f p l).of_type)))
        (both_pass (sweep_pass s (status_number n) (bad_status s ws n) n (λ p l. ap not (eq-eqb _ _ (f p l).in_step)))
        (both_pass (sweep_pass s (λ p. 10) (bad_count s ws) n (λ p l. rw (le-ltb _ _ (f p l).enough, le-ltb _ _ (f p l).fitting)))
        (both_pass (sweep_pass s (λ p. 11) (bad_group s ws) n (λ p l. rw mul-zero (ap not (eq-eqb _ _ (f p l).one_group))))
        (sweep_pass s (λ p. 12) (bad_id s ws) n (λ p l. id_at p ∙ ap not (eq-eqb _ _ (f p l).one_id))))))

    -- what the pass says of them
    module _ (small : (i : ℕ) → get_or ws i 0 < 2 ^ 32) where
      pub some_fault : (q : ℕ) × (q < n) × (fault_at q ≡ true) → None ≡ in_order s ws n
      some_fault (q, l, t) = go (check_packets s ws n) refl
        where
          go : (v : Verdict) → check_packets s ws n ≡ v → None ≡ given (v ▷ gives (length (payload s ws n)))
          go (gives u) e =
              let f = in_step_clear s d (get_or ws 0 0) n q (word_at q) (small 0) (small (s.words * q)) (passes_in_step e q l) in cc
          go (refused number place) e = refl

      pub no_fault : Inside s.words n ws → ((q : ℕ) → q < n → fault_at q ≡ false) → Some (total count_in n - s.bias * n) ≡ in_order s ws n
      no_fault inside clear =
          rw (in_step_passes each)
          (ap Some (omega (arith, counts_sum n (λ q l. (each q l).enough), size-to s ws n inside (λ q l. ((each q l).enough, (each q l).fitting)) n (omega arith))))
        where
          each : (q : ℕ) → q < n → InStep s (get_or ws 0 0) n q (word_at q)
          each q l = clear_in_step s d (get_or ws 0 0) n q (word_at q) (small 0) (small (s.words * q)) (clear q l)

      -- of the only packet
      pub alone : Inside s.words n ws → n ≡ 1 → fault_at 0 ≡ false → Some (nibble (get_or ws 0 0) 3 - s.bias) ≡ in_order s ws n
      unfolding total
      alone inside e z =
          let sum : total count_in n ≡ nibble (get_or ws 0 0) 3 = rw e (omega (arith, count_first)) in
          let bias : s.bias * n ≡ s.bias = rw e (mul-one s.bias) in
          let less : nibble (get_or ws 0 0) 3 - s.bias ≡ total count_in n - s.bias * n = omega arith in
          ap Some less ∙ no_fault inside (λ q l. let k : q ≡ 0 = omega arith in rw k z)
