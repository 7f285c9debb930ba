-- The words of the bytes: each refusal, and what a message that passes tells. Assumes nothing.
use mathlib.Core.Path.{◌≡◌, refl, sym, ap, ◌∙◌}
use mathlib.Core.Bool.{Bool, true, false, not}
use mathlib.Core.List.{List}
use Prim.Native.Nat.{ℕ, ◌%◌, ◌≤◌, ◌<◌}
use native.Mathlib.Omega.{arith}
use borrow.Author.Tests.{lt-ltb, le-ltb, eq-eqb, ne_eqb}
use lib.Dec.{eqb, ltb}
use lib.ListN.{length, drop, length-append}
use Rattle.refusal.specs.Answer.{Answer, gives, refused, Verdict, ◌▷◌, guard, writes}
use Rattle.refusal.proofs.Laws.{never_both, never_refused, given_passes}
use Rattle.ump.specs.Word.{words_of}
use Rattle.ump.specs.Packet.{sysex8}
use Rattle.ump.specs.Check.{Summary, check, checked}
use Rattle.listing.specs.Listing.{words_in, checked_in, listing, text_of, message_text, refusal_line}
use Rattle.listing.specs.Steps.{Passed, over, words_after, load, handed}

-- ---- by the tests of the code

module _ (bytes words : List ℕ) where
  pub load_long : 65536 < length bytes → load bytes words ≡ (refused 1 0, words)
  unfolding load words_in checked_in words_after
  load_long h = rw (lt-ltb _ _ h)

  pub load_short : length bytes ≤ 65536 → length bytes < 16 → load bytes words ≡ (refused 3 0, words)
  unfolding load words_in checked_in words_after
  load_short g h = rw (le-ltb _ _ g, lt-ltb _ _ h)

  pub load_ragged : length bytes ≤ 65536 → 16 ≤ length bytes → (length bytes % 16 ≡ 0 → ⊥) → load bytes words ≡ (refused 4 0, words)
  unfolding load words_in checked_in words_after
  load_ragged g h k = rw (le-ltb _ _ g, le-ltb _ _ h, ne_eqb _ _ k)

  pub load_whole : length bytes ≤ 65536 → 16 ≤ length bytes → length bytes % 16 ≡ 0
      → load bytes words ≡ (checked sysex8 (words_of bytes) (length (words_of bytes)), over (words_of bytes) words)
  unfolding load words_in checked_in words_after
  load_whole g h k = rw (le-ltb _ _ g, le-ltb _ _ h, eq-eqb _ _ k)

-- ---- by the answer

last_given : {A : Type 0} (u v w : Verdict) {a b : A} → u ▷ v ▷ w ▷ gives a ≡ gives b → b ≡ a
last_given (gives u) (gives v) (gives w) e = cc
last_given (gives u) (gives v) (refused n p) e = never_refused e
last_given (gives u) (refused n p) w e = never_refused e
last_given (refused n p) v w e = never_refused e

pub record Loaded (bytes words after : List ℕ) (m : Summary) : Type 0 where
  pub passes : Passed (words_of bytes)
  pub size : m.words ≡ length (words_of bytes)
  pub words_are : after ≡ over (words_of bytes) words
  pub text_is : listing bytes ≡ message_text (words_of bytes) m.size

-- the answer of the check by that of the words
by_words : (bytes : List ℕ) (m : Summary) (a : Answer (List ℕ)) → words_in bytes ≡ a → checked_in a ≡ gives m
    → (words_in bytes ≡ gives (words_of bytes)) × (checked sysex8 (words_of bytes) (length (words_of bytes)) ≡ gives m)
unfolding words_in checked_in
by_words bytes m (gives ws) e f =
    let w : ws ≡ words_of bytes = last_given (guard (ltb 65536 (length bytes)) 1 0) (guard (ltb (length bytes) 16) 3 0) (guard (not (eqb (length bytes % 16) 0)) 4 0) e in
    (e ∙ ap gives w, rw w at f)
by_words bytes m (refused n p) e f = never_refused f

module _ (bytes words after : List ℕ) where
  pub loaded : (m : Summary) → (gives m, after) ≡ load bytes words → Loaded bytes words after m
  unfolding load words_after listing text_of checked
  loaded m e =
      let c : checked_in (words_in bytes) ≡ gives m = sym (ap (λ x. x.0) e) in
      let b = by_words bytes m (words_in bytes) refl c in
      let g = given_passes (check sysex8 (words_of bytes) (length (words_of bytes))) b.1 in
      record {
        passes = g.0;
        size = sym (ap (λ (s : Summary). s.words) g.1);
        words_are = ap (λ x. x.1) e ∙ rw b.0;
        text_is = rw c;
      }

  pub not_loaded : (n p : ℕ) → (refused n p, after) ≡ load bytes words → listing bytes ≡ refusal_line n p
  unfolding load listing text_of
  not_loaded n p e = let c : checked_in (words_in bytes) ≡ refused n p = sym (ap (λ x. x.0) e) in rw c

-- ---- a piece handed over

module _ (piece text : List ℕ) where
  pub handed_room : length text < length piece → (refused 14 0, text) ≡ handed piece text
  unfolding handed
  handed_room h = rw (lt-ltb _ _ h)

  pub handed_whole : length piece ≤ length text → handed piece text ≡ (gives (length piece), over piece text)
  unfolding handed
  handed_whole h = rw (le-ltb _ _ h)

-- the text holds what the answer says
pub handed-fits : (piece text text' : List ℕ) (size : ℕ) → (gives size, text') ≡ handed piece text → size ≤ length text'
unfolding handed
handed-fits piece text text' size e = go (ltb (length text) (length piece)) e
  where
    go : (b : Bool) → ◌≡◌ {A = Answer ℕ × List ℕ} (gives size, text') (writes (guard b 14 0) text (length piece) (over piece text)) → size ≤ length text'
    go true f = never_both (ap (λ o. o.0) f)
    go false f =
        let n : size ≡ length piece = let z = ap (λ o. o.0) f in cc in
        let t = ap (λ o. length o.1) f in
        omega (arith, n, t, length-append piece (drop (length piece) text))
