-- A restored dump has a group of at most 15, and room; what restoring answers. Assumes nothing.
use Rattle.std.specs.Prelude.{Result, Ok, Err}
use mathlib.Core.Path.{◌≡◌, sym, ap, ◌∙◌}
use mathlib.Core.Bool.{true}
use mathlib.Core.List.{List}
use Prim.Native.Nat.{ℕ, suc, ◌≤◌, ◌<◌}
use lib.ListN.{length, take}
use borrow.Author.Tests.{ltb-false, lt-ltb, le-ltb}
use Rattle.refusal.specs.Answer.{gives, refused, pass}
use Rattle.refusal.specs.Number.{number_of}
use Rattle.refusal.specs.declared.Refusal.{Refusal}
use Rattle.ump.specs.Packet.{sysex8}
use Rattle.ump.specs.Packing.{words_for}
use Rattle.ump.specs.Limits.{most_words}
use Rattle.store.specs.Store.{records_of, Dump, dumps_of, at_start, well_formed, sound}
use Rattle.store.proofs.Forms.{All, Formed, all_formed}
use Rattle.chain.specs.Restore.{Payload, exceeds, restored, laid_out, answered, restore}
use Rattle.chain.proofs.Making.{given_room, given_group}
use Rattle.restore.specs.Laying.{Lays, base_in}
use Rattle.restore.specs.declared.restoring.Held.{Held}
use Rattle.restore.proofs.Rooms.{base_refused, base_given}

-- ---- what a restored dump has

pub record Good (lent : ℕ) (p : Payload) : Type 0 where
  pub group : p.group < 16
  pub room : words_for sysex8 (length p.bytes) ≤ lent

pub restored_good : (lent : ℕ) (ds : List Dump) → All Formed ds → (left n : ℕ) (p : Payload) → restored (exceeds lent) ds left n ≡ gives p
    → Good lent p
restored_good lent ds a left n p e =
    record {
      group = given_group (exceeds lent) ds a left n e;
      room = ltb-false lent (words_for sysex8 (length p.bytes)) (given_room (exceeds lent) ds left n e);
    }

-- ---- the answer

module _ (lent left : ℕ) (store : List ℕ) (n : ℕ) {r : (Result Held Refusal)} {scratch : List ℕ}
    (l : Lays (restored (exceeds lent) (dumps_of store) left n) r scratch) where
  pub answer_good : well_formed at_start (records_of store) ≡ true → {base : Held} → r ≡ Ok base → Good lent (base_in base scratch)
  answer_good s {base} e =
      restored_good lent (dumps_of store) (all_formed at_start (records_of store) s) left n (base_in base scratch) (base_given l e)

  pub answer_refused : (words : List ℕ) {refusal : Refusal} → r ≡ Err refusal
      → (refused (number_of refusal) 0, words) ≡ answered words (restored (exceeds lent) (dumps_of store) left n)
  answer_refused words e = ap (answered words) (sym (base_refused l e))

  pub answer_given : (words : List ℕ) {base : Held} {count : ℕ} {after : List ℕ} → r ≡ Ok base
      → count ≡ words_for sysex8 (length (take base.size scratch))
      → after ≡ laid_out (length words) (base_in base scratch)
      → (gives count, after) ≡ answered words (restored (exceeds lent) (dumps_of store) left n)
  answer_given words {base} {count} {after} e c a =
      ap (λ (k : ℕ). (gives k, after)) c
      ∙ ap (λ (x : List ℕ). (gives (words_for sysex8 (length (take base.size scratch))), x)) a
      ∙ ap (answered words) (sym (base_given l e))

-- ---- the whole call

module _ (store : List ℕ) (n : ℕ) (words : List ℕ) where
  pub restore_long : most_words < length words → (refused 1 0, words) ≡ restore store n words
  unfolding restore
  restore_long h = rw (lt-ltb most_words (length words) h)

  pub restore_unsound : {number place : ℕ} → length words ≤ most_words → sound store ≡ refused number place
      → (refused number place, words) ≡ restore store n words
  unfolding restore
  restore_unsound h e = rw (le-ltb most_words (length words) h, e)

  pub restore_is : length words ≤ most_words → sound store ≡ pass
      → answered words (restored (exceeds (length words)) (dumps_of store) (suc (length (dumps_of store))) n) ≡ restore store n words
  unfolding restore
  restore_is h e = rw (le-ltb most_words (length words) h, e)
