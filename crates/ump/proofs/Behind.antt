-- What stands behind a message after edits: zeros where a longer one stood, else the words as they were. Assumes nothing.
use mathlib.Core.Path.{◌≡◌, ap, ◌∙◌}
use mathlib.Core.Bool.{cond}
use mathlib.Core.List.{List, ◌++◌}
use Prim.Native.Nat.{ℕ, ◌+◌, ◌-◌, ◌≤◌, max}
use native.Mathlib.Omega.{arith}
use lib.Dec.{ltb}
use lib.ListN.{length, get_or, drop, replicate, length-replicate, get_or-replicate, get_or-append}
use lib.Seq.{get_or-drop, get_or-append-add}
use borrow.Author.Tests.{lt-ltb, le-ltb}
use Rattle.ump.specs.Packet.{Shape, group_at, id_at}
use Rattle.ump.specs.Packing.{words_for, pack}
use Rattle.ump.specs.Splice.{stored, rewritten}
use Rattle.ump.specs.Holds.{BehindMessage}
use Rattle.ump.proofs.First.{Side, under, over, side}
use Rattle.ump.proofs.Packing.{length_pack}
use Rattle.ump.proofs.Splicing.{length_id}

pub behind_none : (words : List ℕ) (len : ℕ) → BehindMessage words len words len
behind_none words len = record { word = λ i h. rw (le-ltb i len h) }

-- one change after the other
pub behind_both : {words mid left : List ℕ} {a b r new : ℕ} → BehindMessage words a mid b → b ≤ r → BehindMessage mid r left new → BehindMessage words (max a r) left new
behind_both {words} {mid} {left} {a} {b} {r} {new} h k t = record { word = λ i l. t.word i l ∙ go i (side i r) (side i a) }
  where
    go : (i : ℕ) → Side i r → Side i a → cond (ltb i r) 0 (get_or mid i 0) ≡ cond (ltb i (max a r)) 0 (get_or words i 0)
    go i (under m e) y = rw (e, lt-ltb i (max a r) (omega arith))
    go i (over m e) (under n f) = rw (e, lt-ltb i (max a r) (omega arith)) (h.word i (omega arith) ∙ rw f)
    go i (over m e) (over n f) = rw (e, le-ltb i (max a r) (omega arith)) (h.word i (omega arith) ∙ rw f)

stored_behind : (words : List ℕ) (len : ℕ) (message : List ℕ) (i : ℕ) → length message ≤ i → get_or (stored words len message) i 0 ≡ cond (ltb i len) 0 (get_or words i 0)
unfolding stored
stored_behind words len message i h =
    let n : ℕ = length message in
    let rest : List ℕ = replicate (len - n) 0 ++ drop (max len n) words in
    let e : i ≡ n + (i - n) = omega arith in
    ap (λ (j : ℕ). get_or (message ++ rest) j 0) e ∙ get_or-append-add message rest (i - n) 0 ∙ go (side i len)
  where
    go : Side i len → get_or (replicate (len - length message) 0 ++ drop (max len (length message)) words) (i - length message) 0 ≡ cond (ltb i len) 0 (get_or words i 0)
    go (under l e) =
        rw e
        (get_or-append (replicate (len - length message) 0) (drop (max len (length message)) words) 0 (i - length message) (simp length-replicate (omega arith))
        ∙ get_or-replicate (len - length message) (i - length message) 0 0 (omega arith))
    go (over l e) =
        let zeros : List ℕ = replicate (len - length message) 0 in
        let count : length zeros ≡ len - length message = length-replicate (len - length message) 0 in
        let f : i - length message ≡ length zeros + (i - max len (length message)) = omega arith in
        let g : max len (length message) + (i - max len (length message)) ≡ i = omega arith in
        rw e
        (ap (λ (j : ℕ). get_or (zeros ++ drop (max len (length message)) words) j 0) f
        ∙ get_or-append-add zeros (drop (max len (length message)) words) (i - max len (length message)) 0
        ∙ get_or-drop (max len (length message)) words (i - max len (length message)) 0
        ∙ ap (λ (j : ℕ). get_or words j 0) g)

-- a message rewritten with other bytes
pub rewritten_behind : (shape : Shape) (words : List ℕ) (len : ℕ) (new : List ℕ) → BehindMessage words len (rewritten shape words len new) (words_for shape (length new))
unfolding rewritten
rewritten_behind shape words len new =
    record {
      word = λ i h. stored_behind words len (pack shape (group_at shape words 0) (id_at shape words 0) new) i
          (omega (arith, length_pack shape (group_at shape words 0) (id_at shape words 0) new (length_id shape words 0)));
    }
