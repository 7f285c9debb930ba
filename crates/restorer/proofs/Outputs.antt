-- What is written: the restored words' bytes or the refusal's line. Assumes nothing.
use mathlib.Core.Path.{◌≡◌, refl, sym, ap}
use mathlib.Core.Bool.{Bool, true, false, cond}
use mathlib.Core.List.{List, [], ◌∷◌, ◌++◌}
use Prim.Native.Nat.{ℕ, suc, ◌-◌, ◌≤◌}
use native.Mathlib.Omega.{arith}
use lib.Dec.{ltb}
use lib.ListN.{length, take, replicate, length-append}
use Rattle.refusal.specs.Answer.{Answer, gives, refused, ◌▷◌, guard}
use Rattle.refusal.proofs.Laws.{never_both}
use Rattle.ump.specs.Word.{octets}
use Rattle.ump.specs.Limits.{most_words}
use Rattle.ump.specs.Packet.{sysex8}
use Rattle.ump.specs.Packing.{pack, words_for}
use Rattle.ump.proofs.Packing.{length_pack}
use Rattle.listing.specs.Listing.{refusal_line}
use Rattle.store.specs.Store.{dumps_of, sound}
use Rattle.chain.specs.Restore.{Payload, laid_out, answered, restored, restore}
use Rattle.chain.specs.Restore as paper
use Rattle.restorer.specs.Output.{restore_limited, output_of, output}

-- ---- a restored message lies within the words lent

within_answer : (words after : List ℕ) (count : ℕ) (a : Answer Payload)
    → ◌≡◌ {A = Answer ℕ × List ℕ} (gives count, after) (answered words a) → count ≤ length after
unfolding laid_out
within_answer words after count (refused number place) e = never_both (ap (λ o. o.0) e)
within_answer words after count (gives payload) e =
    let message = pack sysex8 payload.group (payload.id ∷ []) payload.bytes in
    let c : count ≡ words_for sysex8 (length payload.bytes) = let z = ap (λ o. o.0) e in cc in
    let l = length_pack sysex8 payload.group (payload.id ∷ []) payload.bytes refl in
    let t : length after ≡ length (message ++ replicate (length words - length message) 0) = ap (λ o. length o.1) e in
    omega (arith, c, l, t, length-append message (replicate (length words - length message) 0))

within_restore : (store : List ℕ) (number : ℕ) (words after : List ℕ) (count : ℕ)
    → ◌≡◌ {A = Answer ℕ × List ℕ} (gives count, after) (restore store number words) → count ≤ length after
unfolding restore
within_restore store number words after count e = within_answer words after count
    (guard (ltb most_words (length words)) 1 0 ▷ sound store ▷ restored (paper.exceeds (length words)) (dumps_of store) (suc (length (dumps_of store))) number)
    e

pub within : (store : List ℕ) (number : ℕ) (words after : List ℕ) (count : ℕ)
    → ◌≡◌ {A = Answer ℕ × List ℕ} (gives count, after) (restore_limited store number words) → count ≤ length after
unfolding restore_limited
within store number words after count e = go (ltb 1048576 (length store)) e
  where
    go : (b : Bool) → ◌≡◌ {A = Answer ℕ × List ℕ} (gives count, after) (cond b (refused 1 0, words) (restore store number words))
        → count ≤ length after
    go true e = never_both (ap (λ o. o.0) e)
    go false e = within_restore store number words after count e

-- ---- what is written

module _ (store : List ℕ) (number : ℕ) {after : List ℕ} where
  pub output-words : {count : ℕ} → ◌≡◌ {A = Answer ℕ × List ℕ} (gives count, after) (restore_limited store number (replicate most_words 0))
      → output store number ≡ octets (take count after)
  unfolding output
  output-words e = ap output_of (sym e)

  pub output-line : {k p : ℕ} → ◌≡◌ {A = Answer ℕ × List ℕ} (refused k p, after) (restore_limited store number (replicate most_words 0))
      → output store number ≡ refusal_line k p
  unfolding output
  output-line e = ap output_of (sym e)
