-- An empty message, and its payload set. Assumes nothing.
use Rattle.std.specs.Prelude.{Result, Ok, Err}
use Rattle.std.specs.Result.{IsOk}
use mathlib.Core.Path.{◌≡◌, refl, sym, ap, ◌∙◌}
use mathlib.Core.List.{List, [], ◌∷◌, ◌++◌, append-nil}
use Prim.Native.Nat.{ℕ, zero, suc, ◌+◌, ◌-◌, ◌*◌, ◌%◌, ◌≤◌, ◌<◌, max}
use native.Mathlib.Nat.{zero-add, suc-add, mod-eq_of_lt}
use native.Mathlib.Omega.{arith}
use lib.ListN.{length, drop, set, replicate, length-append, length-replicate}
use lib.Seq.{drop-append-add}
use borrow.Author.Tests.{le-ltb}
use Rattle.refusal.specs.Answer.{Answer, gives}
use Rattle.refusal.specs.declared.Fault.{Fault}
use Rattle.splice.specs.declared.sysex8.Change.{Change}
use Rattle.splice.specs.Meaning.{spliced_meaning}
use Rattle.ump.specs.Word.{word, words_of}
use Rattle.ump.specs.Packet.{sysex8, group_at, id_at, joined}
use Rattle.ump.specs.Packing.{status_for, frame, packs_at, packs, packets_for, words_for, pack}
use Rattle.ump.specs.Limits.{most_words}
use Rattle.ump.specs.Check.{Valid, payload_of}
use Rattle.ump.specs.Splice.{stored, rewritten, growth_by, Spliced, splice, set_payload}
use Rattle.ump.proofs.Sizes.{packets_pos}
use Rattle.ump.proofs.Packing.{length_pack}
use Rattle.ump.proofs.Checks.{valid_passes}
use Rattle.ump.proofs.Message.{payload_of_pack, group_of_pack, id_of_pack, pack_valid}
use Rattle.chain.specs.Restore.{laid_out}

-- the first word of an empty message
abbrev empty_word : ℕ → ℕ → ℕ
empty_word group id = word (80 + group) 1 id 0

empty_is : (group id : ℕ) → pack sysex8 group (id ∷ []) [] ≡ empty_word group id ∷ 0 ∷ 0 ∷ 0 ∷ []
unfolding pack packs packs_at packets_for joined frame status_for words_of
empty_is group id = refl

-- with zeros behind it
pub empty_words : (group id n : ℕ) → 4 ≤ n → set (replicate n 0) 0 (empty_word group id) ≡ pack sysex8 group (id ∷ []) [] ++ replicate (n - 4) 0
empty_words group id n h =
    let q : n ≡ suc (suc (suc (suc (n - 4)))) = omega arith in
    ap (λ (k : ℕ). set (replicate k 0) 0 (empty_word group id)) q ∙ ap (λ (l : List ℕ). l ++ replicate (n - 4) 0) (sym (empty_is group id))

zeros : ℕ → List ℕ
zeros n = replicate n 0

drop_zeros : (k n : ℕ) → drop k (zeros (k + n)) ≡ zeros n
unfolding zeros
drop_zeros zero n = rw zero-add
drop_zeros (suc k) n = rw suc-add (drop_zeros k n)

zeros_drop : (k n : ℕ) → ◌≡◌ {A = List ℕ} (drop k (replicate (k + n) 0)) (replicate n 0)
unfolding zeros
zeros_drop k n = drop_zeros k n

zero_words : ◌≡◌ {A = ℕ} (words_for sysex8 0) 4
unfolding packets_for
zero_words = refl

pub words_four : (n : ℕ) → 4 ≤ words_for sysex8 n
words_four n = omega (arith, packets_pos sysex8 n)

module _ (group id : ℕ) (g : group < 16) (i : id < 256) (n : ℕ) (h : n ≤ most_words) (bytes : List ℕ) (room : words_for sysex8 (length bytes) ≤ n) where
  abbrev message : List ℕ
  message = pack sysex8 group (id ∷ []) bytes

  abbrev words : List ℕ
  words = pack sysex8 group (id ∷ []) [] ++ replicate (n - 4) 0

  four : 4 ≤ words_for sysex8 (length bytes)
  four = words_four (length bytes)

  long : length words ≡ n
  long = length-append (pack sysex8 group (id ∷ []) []) (replicate (n - 4) 0) ∙ omega (arith, length_pack sysex8 group (id ∷ []) [] refl, zero_words, length-replicate {A = ℕ} (n - 4) 0, four)

  group_is : group_at sysex8 words 0 ≡ group
  group_is = group_of_pack sysex8 group (id ∷ []) [] g refl (i, tt) tt (replicate (n - 4) 0)

  id_is : id_at sysex8 words 0 ≡ id ∷ []
  id_is = id_of_pack sysex8 group (id ∷ []) [] g refl (i, tt) tt (replicate (n - 4) 0)

  carries : payload_of sysex8 words 4 ≡ []
  carries = rw zero_words at (payload_of_pack sysex8 group (id ∷ []) [] g refl (i, tt) tt (replicate (n - 4) 0))

  valid : Valid sysex8 words 4
  valid = rw zero_words at (pack_valid sysex8 group (id ∷ []) [] g refl (i, tt) tt (replicate (n - 4) 0) (omega (arith, long)))

  stored_is : stored words 4 message ≡ laid_out n (record { group = group; id = id; bytes = bytes })
  unfolding stored laid_out
  stored_is =
      let m = message in
      let empty = pack sysex8 group (id ∷ []) [] in
      let l : length m ≡ words_for sysex8 (length bytes) = length_pack sysex8 group (id ∷ []) bytes refl in
      let a : 4 - length m ≡ 0 = omega (arith, l, four) in
      let b : max 4 (length m) ≡ length empty + (length m - 4) = omega (arith, l, four, length_pack sysex8 group (id ∷ []) [] refl, zero_words) in
      let c : n - 4 ≡ (length m - 4) + (n - length m) = omega (arith, l, four, room) in
      ap (λ (k : ℕ). m ++ (replicate k 0 ++ drop (max 4 (length m)) words)) a
      ∙ ap (λ (k : ℕ). m ++ drop k words) b
      ∙ ap (λ (x : List ℕ). m ++ x)
      (drop-append-add empty (replicate (n - 4) 0) (length m - 4)
      ∙ ap (λ (k : ℕ). drop (length m - 4) (replicate k 0)) c
      ∙ zeros_drop (length m - 4) (n - length m))

  pub set_is : (set_payload sysex8 words 4 bytes).1 ≡ laid_out n (record { group = group; id = id; bytes = bytes })
  unfolding splice rewritten
  set_is =
      rw (
        carries,
        valid_passes sysex8 words 4 valid,
        append-nil bytes,
        le-ltb (length words) (words_for sysex8 (length bytes)) (omega (arith, long, room)),
        group_is,
        id_is,
      )
      stored_is

  pub set_given : (set_payload sysex8 words 4 bytes).0 ≡ gives (record { length = words_for sysex8 (length bytes); growth = growth_by (length bytes) 0 })
  unfolding splice
  set_given =
      rw (
        carries,
        valid_passes sysex8 words 4 valid,
        append-nil bytes,
        le-ltb (length words) (words_for sysex8 (length bytes)) (omega (arith, long, room)),
      )
      refl

-- the words before the payload is set
begun_is : (group id n : ℕ) → group < 16 → (bytes : List ℕ) → words_for sysex8 (length bytes) ≤ n
    → {first : ℕ} {cleared : List ℕ} → cleared ≡ replicate n 0 → first ≡ word (5 % 16 * 16 + group % 16) (0 % 16 * 16 + 1 % 16) id 0
    → set cleared 0 first ≡ pack sysex8 group (id ∷ []) [] ++ replicate (n - 4) 0
begun_is group id n g bytes room {first} c f =
    ap (λ (l : List ℕ). set l 0 first) c ∙ ap (λ (x : ℕ). set (replicate n 0) 0 x) (f ∙ ap (λ (x : ℕ). word (80 + x) 1 id 0) (mod-eq_of_lt g))
    ∙ empty_words group id n (omega (arith, words_four (length bytes), room))

-- what stands in the words after the three steps
pub put_is : (group id : ℕ) → group < 16 → id < 256 → (before bytes : List ℕ) → length before ≤ most_words → words_for sysex8 (length bytes) ≤ length before
    → {first : ℕ} {cleared after : List ℕ} {answer : Answer Spliced} → cleared ≡ replicate (length before) 0 → first ≡ word (5 % 16 * 16 + group % 16) (0 % 16 * 16 + 1 % 16) id 0
    → (answer, after) ≡ set_payload sysex8 (set cleared 0 first) 4 bytes → after ≡ laid_out (length before) (record { group = group; id = id; bytes = bytes })
put_is group id g i before bytes h room c f e =
    ap (λ (x : Answer Spliced × List ℕ). x.1) e
    ∙ ap (λ (l : List ℕ). (set_payload sysex8 l 4 bytes).1) (begun_is group id (length before) g bytes room c f)
    ∙ set_is group id g i (length before) h bytes room

-- and the payload is never refused
is_given : (r : Result Change Fault) {change : Spliced} → spliced_meaning r ≡ gives change → IsOk r
is_given (Ok change) e = refl
is_given (Err fault) e = let z : ◌≡◌ {A = ℕ} 0 1 = cc in absurd (omega arith)

pub put_given : (group id : ℕ) → group < 16 → id < 256 → (before bytes : List ℕ) → length before ≤ most_words → words_for sysex8 (length bytes) ≤ length before
    → {first : ℕ} {cleared after : List ℕ} (r : Result Change Fault) → cleared ≡ replicate (length before) 0 → first ≡ word (5 % 16 * 16 + group % 16) (0 % 16 * 16 + 1 % 16) id 0
    → (spliced_meaning r, after) ≡ set_payload sysex8 (set cleared 0 first) 4 bytes → IsOk r
put_given group id g i before bytes h room r c f e =
    is_given r
    (ap (λ (x : Answer Spliced × List ℕ). x.0) e
    ∙ ap (λ (l : List ℕ). (set_payload sysex8 l 4 bytes).0) (begun_is group id (length before) g bytes room c f)
    ∙ set_given group id g i (length before) h bytes room)
