-- Wrong outcomes of `mark` and `collect` that their promises shut out, each on a concrete store. Assumes nothing.
use Rattle.std.specs.Prelude.{Result, Ok, Err}
use mathlib.Core.Path.{◌≡◌, ap}
use mathlib.Core.List.{List, ◌++◌}
use Prim.Native.Nat.{ℕ}
use lib.ListN.{get_or}
use Rattle.refusal.specs.declared.Fault.{Fault}
use Rattle.refusal.specs.Tight.{ShutOut}
use Rattle.refusal.proofs.Laws.{never_both, never_refused}
use Rattle.refusal.proofs.Tight.{differ, told}
use Rattle.store.specs.Store.{is_data, body_size, records_after, follows_by, allowed_by, well_formed, data_in, patches_in, dump_of, dumps_in, held, twice, sound}
use Rattle.store.specs.Samples.{one, two, bare}
use Rattle.reclaim.specs.Reclaim as paper
use Rattle.reclaim.specs.Samples.{gone, one_gone}
use Rattle.reclaim.proofs.mark.Kinds as mark-kinds
use Rattle.reclaim.proofs.mark.Reads as mark
use Rattle.reclaim.proofs.collect.Kinds as collect-kinds
use Rattle.reclaim.proofs.collect.Reads as collect

-- `mark` answers this of this store and number
abbrev WrongMark : List ℕ → ℕ → (Result (Unit {0}) Fault) → Type 0
WrongMark store number answer =
    ShutOut 1 mark-kinds.ps mark-kinds.r mark.Post (λ κs a x s. (a.0.now ≡ store) × (a.1.0 ≡ number) × (x ≡ answer))

-- it leaves such a byte at an index
abbrev MarkLeaves : List ℕ → ℕ → ℕ → ℕ → Type 0
MarkLeaves store number index byte =
    ShutOut 1 mark-kinds.ps mark-kinds.r mark.Post (λ κs a x s. (a.0.now ≡ store) × (a.1.0 ≡ number) × (get_or s.0.now index 0 ≡ byte))

-- `collect` answers this of this store
abbrev Wrong : List ℕ → (Result ℕ Fault) → Type 0
Wrong store answer = ShutOut 1 collect-kinds.ps collect-kinds.r collect.Post (λ κs a x s. (a.0.now ≡ store) × (x ≡ answer))

-- it leaves such a byte at an index
abbrev Leaves : List ℕ → ℕ → ℕ → Type 0
Leaves store index byte = ShutOut 1 collect-kinds.ps collect-kinds.r collect.Post (λ κs a x s. (a.0.now ≡ store) × (get_or s.0.now index 0 ≡ byte))

-- A mark that refuses a dump held (held), or one marked already (again); that accepts a number not held (missing); that leaves the dump
-- as it was (unmarked), marks its base too (base), takes a mark back (back), or writes in spite of a refusal (kept).
-- A collection that refuses every store (any); that keeps all (all, all-bytes); that frees what a wanted dump rests on (base_freed), or
-- what stands on a walk that ends Missing (missing_freed); that cuts a ring open (ring_cut); that keeps a ring that no wanted dump leads
-- into (ring_kept); that reorders (order); that leaves freed bytes (freed).
record Outcomes : Type 0 where
  held : (fault : Fault) → WrongMark (two ++ one) 1 (Err fault)
  again : (fault : Fault) → WrongMark (two ++ one_gone) 1 (Err fault)
  missing : WrongMark (two ++ one) 3 (Ok tt)
  unmarked : MarkLeaves (two ++ one) 2 0 0x02
  base : MarkLeaves (two ++ one) 2 12 0x11
  back : MarkLeaves (two ++ one_gone) 1 12 0x01
  kept : MarkLeaves (one ++ one) 1 0 0x11
  any : (fault : Fault) → Wrong (two ++ one) (Err fault)
  all : Wrong (gone 2 1 ++ one) (Ok 14)
  all-bytes : Leaves (gone 2 1 ++ one) 0 0x12
  base_freed : Wrong (two ++ one_gone) (Ok 12)
  missing_freed : Wrong (gone 2 9 ++ (one_gone ++ bare 3 2)) (Ok 5)
  ring_cut : Wrong (gone 2 3 ++ (bare 4 3 ++ gone 3 2)) (Ok 10)
  ring_kept : Wrong (gone 2 3 ++ (one ++ gone 3 2)) (Ok 19)
  order : Leaves (bare 2 1 ++ one) 0 0x01
  freed : Leaves (one ++ gone 2 1) 9 0x12

shut_out : Outcomes
unfolding is_data body_size records_after follows_by allowed_by well_formed data_in patches_in dump_of dumps_in held twice sound paper.bytes_in paper.marked_kind paper.marked_in paper.mark paper.wanted_in paper.walked paper.reaches paper.kept_in paper.collected paper.collect
shut_out =
    record {
      held = λ fault κs a x s w p. never_refused (ap (λ o. o.0) (rw (w.0, w.1, w.2) at p));
      again = λ fault κs a x s w p. never_refused (ap (λ o. o.0) (rw (w.0, w.1, w.2) at p));
      missing = λ κs a x s w p. never_both (ap (λ o. o.0) (rw (w.0, w.1, w.2) at p));
      unmarked = λ κs a x s w p. differ (λ (n : ℕ). n) tt (rw w.2 at (ap (λ o. get_or o.1 0 0) (rw (w.0, w.1) at p)));
      base = λ κs a x s w p. differ (λ (n : ℕ). n) tt (rw w.2 at (ap (λ o. get_or o.1 12 0) (rw (w.0, w.1) at p)));
      back = λ κs a x s w p. differ (λ (n : ℕ). n) tt (rw w.2 at (ap (λ o. get_or o.1 12 0) (rw (w.0, w.1) at p)));
      kept = λ κs a x s w p. differ (λ (n : ℕ). n) tt (rw w.2 at (ap (λ o. get_or o.1 0 0) (rw w.0 at p)));
      any = λ fault κs a x s w p. never_refused (ap (λ o. o.0) (rw (w.0, w.1) at p));
      all = λ κs a x s w p. differ (told (λ (n : ℕ). n)) tt (ap (λ o. o.0) (rw (w.0, w.1) at p));
      all-bytes = λ κs a x s w p. differ (λ (n : ℕ). n) tt (rw w.1 at (ap (λ o. get_or o.1 0 0) (rw w.0 at p)));
      base_freed = λ κs a x s w p. differ (told (λ (n : ℕ). n)) tt (ap (λ o. o.0) (rw (w.0, w.1) at p));
      missing_freed = λ κs a x s w p. differ (told (λ (n : ℕ). n)) tt (ap (λ o. o.0) (rw (w.0, w.1) at p));
      ring_cut = λ κs a x s w p. differ (told (λ (n : ℕ). n)) tt (ap (λ o. o.0) (rw (w.0, w.1) at p));
      ring_kept = λ κs a x s w p. differ (told (λ (n : ℕ). n)) tt (ap (λ o. o.0) (rw (w.0, w.1) at p));
      order = λ κs a x s w p. differ (λ (n : ℕ). n) tt (rw w.1 at (ap (λ o. get_or o.1 0 0) (rw w.0 at p)));
      freed = λ κs a x s w p. differ (λ (n : ℕ). n) tt (rw w.1 at (ap (λ o. get_or o.1 9 0) (rw w.0 at p)));
    }
