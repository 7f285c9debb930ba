-- `restorer::output::put_words`: word after word. Assumes nothing.
use Rattle.std.proofs.Common.{◌≡◌, refl, sym, ap, ◌∙◌, ℕ, suc, zero, List, [], ◌∷◌, ◌++◌, ◌+◌, ◌-◌, ◌*◌, ◌/◌, ◌<◌, length, get_or, take, drop, append_assoc, add-one, arith, w32}
use lib.Seq.{take_at, drop_at, drop-drop, length-take-le}
use Rattle.std.specs.Int.{to_be_bytes}
use Rattle.ump.specs.Word.{octet, octets}
use Rattle.ump.proofs.Words.{length-octets}
use Rattle.restorer.proofs.output.put_words.Goals as goal

-- one word more
octets_more : (words : List ℕ) (i : ℕ) → i < length words → octets (take (suc i) words) ≡ octets (take i words) ++ to_be_bytes w32 (get_or words i 0)
unfolding octets
octets_more [] i h = absurd (omega arith)
octets_more (w ∷ words) zero h = let e : w / 1 ≡ w = omega arith in rw e
octets_more (w ∷ words) (suc i) h =
    ap (λ (l : List ℕ). octet w 0 ∷ octet w 1 ∷ octet w 2 ∷ octet w 3 ∷ l) (octets_more words i (omega arith))

-- four bytes behind those that were written
behind : (front bytes old text : List ℕ) (at k : ℕ) → text ≡ front ++ drop at old → length front ≡ at → k ≡ 4
    → take at text ++ (bytes ++ drop k (drop at text)) ≡ (front ++ bytes) ++ drop (at + 4) old
behind front bytes old text at k e f g =
    let before : take at text ≡ front = rw e (take_at front (drop at old) at f) in
    let rest : drop k (drop at text) ≡ drop (at + 4) old = rw (g, e, drop_at front (drop at old) at f) (drop-drop 4 at old) in
    rw (before, rest) (sym (append_assoc front bytes (drop (at + 4) old)))

pub loop-index-init : goal.loop-index-init
unfolding octets
loop-index-init c = refl

pub loop-index-preserved : goal.loop-index-preserved
loop-index-preserved c =
    let l = c.loop-index in
    let ws = c.args.words.now in
    let n : length (octets (take l.index ws)) ≡ 4 * l.index =
    length-octets (take l.index ws) ∙ ap (λ (k : ℕ). 4 * k) (length-take-le l.index ws (omega arith))
    in
    let at = 4 * l.index in
    let s : 4 * suc l.index ≡ at + 4 = omega arith in
    let k : at + 4 - at ≡ 4 = omega arith in
    rw (add-one, octets_more ws l.index c.loop-index-test.true, s, c.copy_from_slice.ensures.after, c.to_be_bytes.ensures)
    (behind (octets (take l.index ws)) (to_be_bytes w32 (get_or ws l.index 0)) c.args.text.now l.text at (at + 4 - at) l.invariant n k)
