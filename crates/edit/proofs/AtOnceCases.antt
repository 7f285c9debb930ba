-- All edits of a list, case by case. Assumes nothing.
use mathlib.Core.Path.{◌≡◌, sym}
use mathlib.Core.Bool.{Bool, true, false}
use mathlib.Core.List.{List}
use Prim.Native.Nat.{ℕ, ◌≤◌, ◌<◌}
use native.Mathlib.Omega.{arith}
use lib.Dec.{ltb}
use lib.IntN.{ℤ, pos, ◌-ℤ◌}
use lib.ListN.{length}
use borrow.Author.Tests.{lt-ltb, le-ltb}
use Rattle.refusal.specs.Answer.{Verdict, gives, refused, pass, ◌▷◌, guard}
use Rattle.refusal.proofs.Laws.{never_both, given_passes, refused_by}
use Rattle.ump.specs.Packet.{sysex8}
use Rattle.ump.specs.Packing.{words_for}
use Rattle.ump.specs.Check.{check, payload_of}
use Rattle.ump.specs.Splice.{rewritten}
use Rattle.ump.specs.Edits.{Apart, replaced, edits_of, patches_of, bad_list, some_overlap, all_checks, splice_all}
use Rattle.message.specs.Accepted.{Accepted}
use Rattle.splice.specs.Merging.{Listed}
use Rattle.splice.proofs.Lists.{length-replaced}
use Rattle.edit.specs.Listed.{size_after, list_check, listed}
use Rattle.edit.proofs.Lists.{Passing, list_passes}
use Rattle.edit.proofs.Apart.{apart}

guards_refused : (a b : Bool) (later : Verdict) {n q : ℕ} → guard a 13 0 ▷ guard b 20 0 ≡ refused n q → guard a 13 0 ▷ guard b 20 0 ▷ later ≡ refused n q
guards_refused true b later e = e
guards_refused false true later e = e
guards_refused false false later e = never_both e

module _ (words : List ℕ) (len : ℕ) (numbers bytes : List ℕ) where
  abbrev old : List ℕ
  old = payload_of sysex8 words len

  abbrev new : List ℕ
  new = replaced old (patches_of (edits_of numbers) bytes)

  pub checks_refused : {n q : ℕ} → check sysex8 words len ≡ refused n q → all_checks sysex8 words len numbers bytes ≡ refused n q
  checks_refused e = rw e

  pub all_refused : {n q : ℕ} → check sysex8 words len ≡ refused n q → (refused n q, words) ≡ splice_all sysex8 words len numbers bytes
  unfolding splice_all
  all_refused e = rw e

  module _ {n : ℕ} (ok : Accepted words len n) where
    pub checks_listed : {number place : ℕ} → listed n (length bytes) numbers ≡ refused number place → all_checks sysex8 words len numbers bytes ≡ refused number place
    unfolding list_check
    checks_listed e =
        rw (ok.passes, ← ok.sized)
        (guards_refused (bad_list n (length bytes) numbers) (some_overlap 0 (edits_of numbers))
        (guard (ltb (length words) (words_for sysex8 (length new))) 14 0) (refused_by (list_check n (length bytes) numbers) _ e))

    pub all_listed : {number place : ℕ} → listed n (length bytes) numbers ≡ refused number place → (refused number place, words) ≡ splice_all sysex8 words len numbers bytes
    unfolding splice_all
    all_listed e = rw (checks_listed e)

    module _ {size : ℕ} (l : listed n (length bytes) numbers ≡ gives size) where
      given : (list_check (length old) (length bytes) numbers ≡ pass) × (size_after (length old) (edits_of numbers) ≡ size)
      given = given_passes (list_check (length old) (length bytes) numbers) (rw ok.sized at l)

      passing : Passing (length old) (length bytes) numbers
      passing = list_passes (length old) (length bytes) numbers given.0

      ranges : Apart (patches_of (edits_of numbers) bytes) (length old)
      ranges = apart (length old) (edits_of numbers) bytes passing.good passing.apart

      pub new_sized : length new ≡ size
      new_sized =
          omega (arith, given.1, passing.all-bytes, length-replaced (edits_of numbers) old bytes ranges (omega (arith, passing.all-bytes)))

      pub checks_room : length words < words_for sysex8 size → all_checks sysex8 words len numbers bytes ≡ refused 14 0
      checks_room h = rw (ok.passes, passing.fine, passing.apart, new_sized, lt-ltb (length words) (words_for sysex8 size) h)

      pub all_room : length words < words_for sysex8 size → (refused 14 0, words) ≡ splice_all sysex8 words len numbers bytes
      unfolding splice_all
      all_room h = rw (checks_room h)

      module _ (h : words_for sysex8 size ≤ length words) where
        pub checks_pass : all_checks sysex8 words len numbers bytes ≡ pass
        checks_pass = rw (ok.passes, passing.fine, passing.apart, new_sized, le-ltb (length words) (words_for sysex8 size) h)

        -- the ranges can be replaced
        pub can_replace : Listed words len n size numbers bytes
        can_replace = record { passed = ok; apart = rw ok.sized ranges; given = sym passing.all-bytes; sized = sym new_sized; room = h }

        pub all_done : {needed : ℕ} {growth : ℤ} {after : List ℕ} → needed ≡ words_for sysex8 size → growth ≡ pos size -ℤ pos n
            → after ≡ rewritten sysex8 words len new → (gives (record { length = needed; growth = growth }), after) ≡ splice_all sysex8 words len numbers bytes
        unfolding splice_all
        all_done en eg el = rw (checks_pass, en, eg, el, new_sized, ok.sized)
