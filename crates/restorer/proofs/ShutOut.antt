-- Wrong outcomes that the promise shuts out. Assumes nothing.
use Rattle.std.specs.Prelude.{Ok, Err}
use mathlib.Core.Path.{◌≡◌, refl, sym, ap, ◌∙◌}
use mathlib.Core.List.{List, ◌∷◌}
use Prim.Native.Nat.{ℕ, ◌≤◌}
use contract.Lifetimes.{Lfts}
use denote.Triple.Clauses.{AtExit}
use lib.ListN.{length, get_or, replicate}
use borrow.Fn.Kinds.{Dens, res_t, ended_of}
use Rattle.refusal.specs.Answer.{Answer, gives}
use Rattle.refusal.specs.declared.Refusal.TheVariants.{Room}
use Rattle.refusal.proofs.Tight.{differ, told}
use Rattle.ump.specs.Word.{octets, words_of}
use Rattle.ump.specs.Packet.{joined}
use Rattle.ump.specs.Packing.{status_for, frame, packs_at, packs, packets_for, pack}
use Rattle.store.specs.Store.{is_data, body_size, records_after, follows_by, allowed_by, well_formed, data_in, patches_in, dump_of, dumps_in, held, twice, sound}
use Rattle.store.specs.Samples as store
use Rattle.listing.specs.Listing.{ascii, last_digits, number, two_numbers, refusal_line}
use Rattle.listing.specs.Steps.{over}
use Rattle.listing.proofs.Loading.{handed_whole}
use Rattle.chain.specs.Restore.{roomed, rebuilt, restored, laid_out, restore}
use Rattle.restorer.specs.Output.{restore_limited, output}
use Rattle.restorer.proofs.output.write.Kinds as write-kinds
use Rattle.restorer.proofs.output.write.Reads as write
use Rattle.refusal.specs.Meaning.{answer_of}

-- a dump that is its own base
ring : output (store.bare 1 1) 1 ≡ ascii "refused 25 at 0\n"
unfolding output restore_limited restore sound is_data body_size records_after follows_by allowed_by well_formed data_in patches_in dump_of dumps_in twice held roomed rebuilt restored refusal_line two_numbers number last_digits
ring = refl

-- a whole dump of two bytes
whole : output store.one 1 ≡ 0x52 ∷ 0x03 ∷ 0x07 ∷ 0x41 ∷ 0x42 ∷ replicate 11 0
unfolding output restore_limited restore sound is_data body_size records_after follows_by allowed_by well_formed data_in patches_in dump_of dumps_in twice held roomed rebuilt restored laid_out octets words_of joined status_for frame packs_at packs packets_for pack
whole = refl

module _ (κs : Lfts 2) (a : Dens κs write-kinds.ps) (x : (res_t write-kinds.r κs).Denot) (s : AtExit (ended_of 2 write-kinds.ps write-kinds.r) κs)
    (post : write.Post κs a x s) (room : 16 ≤ length a.1.1.0.now) (one : a.1.0 ≡ 1) where
  outcome : {text : List ℕ} → output a.0.now a.1.0 ≡ text → length text ≤ length a.1.1.0.now → ◌≡◌ {A = Answer ℕ × List ℕ}
      (answer_of x, s.1.1.0.now) (gives (length text), over text a.1.1.0.now)
  outcome e h = rw e at post ∙ handed_whole _ _ h

  of_ring : a.0.now ≡ store.bare 1 1 → output a.0.now a.1.0 ≡ ascii "refused 25 at 0\n"
  of_ring b = rw (b, one) ring

  of_whole : a.0.now ≡ store.one → output a.0.now a.1.0 ≡ 0x52 ∷ 0x03 ∷ 0x07 ∷ 0x41 ∷ 0x42 ∷ replicate 11 0
  of_whole b = rw (b, one) whole

  -- a dump that is its own base: no text at all
  not_silent : a.0.now ≡ store.bare 1 1 → x ≡ Ok 0 → ⊥
  not_silent b e = differ (told (λ v. v)) tt (rw e at (ap (λ o. o.0) (outcome (of_ring b) room)))

  -- the same: 16 bytes are room enough
  not_no_room : a.0.now ≡ store.bare 1 1 → x ≡ Err (record { refusal = Room; place = 0 }) → ⊥
  not_no_room b e = differ (told (λ v. v)) tt (rw e at (ap (λ o. o.0) (outcome (of_ring b) room)))

  -- a whole dump of two bytes: the lowest byte of a word first
  not_lowest : a.0.now ≡ store.one → get_or s.1.1.0.now 0 0 ≡ 0x41 → ⊥
  not_lowest b e = differ (λ (k : ℕ). k) tt (sym e ∙ ap (λ o. get_or o.1 0 0) (outcome (of_whole b) room))

  -- the same: no word is written but those of the message, 16 bytes
  not_more : a.0.now ≡ store.one → x ≡ Ok 20 → ⊥
  not_more b e = differ (told (λ v. v)) tt (rw e at (ap (λ o. o.0) (outcome (of_whole b) room)))
