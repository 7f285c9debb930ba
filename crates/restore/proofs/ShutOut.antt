-- Wrong outcomes of `restore` that its promise shuts out, each on a concrete store. Assumes nothing.
use Rattle.std.specs.Prelude.{Result, Ok, Err}
use mathlib.Core.Path.{◌≡◌, refl, ap, ◌∙◌}
use mathlib.Core.Bool.{Bool, false, not}
use lib.Dec.{T, eqb}
use Rattle.refusal.specs.Answer.{gives, refused}
use mathlib.Core.List.{List, ◌++◌}
use Prim.Native.Nat.{ℕ}
use lib.ListN.{get_or}
use Rattle.refusal.specs.declared.Refusal.{Refusal}
use Rattle.refusal.specs.declared.Refusal.TheVariants.{Room, Ring}
use Rattle.refusal.specs.declared.Fault.{Fault}
use Rattle.refusal.specs.Tight.{ShutOut}
use Rattle.refusal.proofs.Laws.{never_both, never_refused}
use Rattle.refusal.proofs.Tight.{differ, told}
use Rattle.ump.specs.Word.{words_of}
use Rattle.ump.specs.Packet.{joined}
use Rattle.ump.specs.Packing.{pack, packs, packs_at, packets_for, frame, status_for}
use Rattle.ump.specs.Edits.{replaced}
use Rattle.store.specs.Store.{is_data, body_size, records_after, follows_by, allowed_by, well_formed, data_in, patches_in, dump_of, dumps_in, held, twice, sound}
use Rattle.store.specs.Samples.{one, two, bare}
use Rattle.chain.specs.Restore as paper
use Rattle.chain.specs.Samples.{sevens, shorter, growing}
use Rattle.restore.proofs.restore.Kinds as restore-kinds
use Rattle.restore.proofs.restore.Reads as restore
use Rattle.refusal.specs.Meaning.{answer_of}

-- `restore` answers this of this store, number and so many words lent
abbrev Wrong : List ℕ → ℕ → ℕ → (Result ℕ Fault) → Type 0
Wrong store number n answer =
    ShutOut 2 restore-kinds.ps restore-kinds.r restore.Post (λ κs a x s. (a.0.now ≡ store) × (a.1.0 ≡ number) × (a.1.1.0.now ≡ sevens n) × (x ≡ answer))

-- it leaves such a word at an index
abbrev Left : List ℕ → ℕ → ℕ → ℕ → ℕ → Type 0
Left store number n index word =
    ShutOut 2 restore-kinds.ps restore-kinds.r restore.Post
    (λ κs a x s. (a.0.now ≡ store) × (a.1.0 ≡ number) × (a.1.1.0.now ≡ sevens n) × (get_or s.1.1.0.now index 0 ≡ word))

abbrev refuse : Refusal → (Result ℕ Fault)
refuse name = Err (record { refusal = name; place = 0 })

-- A restore that refuses every chain (chains), or every store with a ring in it (beside); that never looks for a ring (ring); that judges Room in the
-- middle of a delta's edits (middle), or on the result alone (base); that leaves old words past the message (past), writes in spite of a refusal
-- (kept), or gives the base for its delta (base_words).
record Outcomes : Type 0 where
  chains : (fault : Fault) → Wrong (two ++ one) 2 4 (Err fault)
  beside : Wrong (one ++ bare 3 3) 1 4 (refuse Ring)
  ring : (words : ℕ) → Wrong (bare 3 3) 3 4 (Ok words)
  middle : Wrong growing 2 4 (refuse Room)
  base : Wrong shorter 2 4 (Ok 4)
  past : Left one 1 6 5 7
  kept : Left (bare 3 3) 3 4 0 0
  base_words : Left (two ++ one) 2 4 0 0x52030741

-- what is answered there
chain_is : (paper.restore (two ++ one) 2 (sevens 4)).0 ≡ gives 4
unfolding is_data body_size records_after follows_by allowed_by well_formed data_in patches_in dump_of dumps_in held twice sound paper.roomed paper.outside paper.rebuilt paper.restored paper.laid_out paper.restore pack packs packs_at packets_for frame status_for joined words_of replaced
chain_is = refl

ring_is : (paper.restore (bare 3 3) 3 (sevens 4)).0 ≡ refused 25 0
unfolding is_data body_size records_after follows_by allowed_by well_formed data_in patches_in dump_of dumps_in held twice sound paper.roomed paper.outside paper.rebuilt paper.restored paper.laid_out paper.restore pack packs packs_at packets_for frame status_for joined words_of replaced
ring_is = refl

abbrev Others : List ℕ → ℕ → ℕ → (Result ℕ Fault) → Type 0
Others store number n answer =
    eqb (told (λ (n : ℕ). n) (answer_of answer)) (told (λ (n : ℕ). n) (paper.restore store number (sevens n)).0) ≡ false

abbrev Puts : List ℕ → ℕ → ℕ → ℕ → ℕ → Type 0
Puts store number n index word = eqb word (get_or (paper.restore store number (sevens n)).1 index 0) ≡ false

beside_other : Others (one ++ bare 3 3) 1 4 (refuse Ring)
unfolding is_data body_size records_after follows_by allowed_by well_formed data_in patches_in dump_of dumps_in held twice sound paper.roomed paper.outside paper.rebuilt paper.restored paper.laid_out paper.restore pack packs packs_at packets_for frame status_for joined words_of replaced
beside_other = refl

middle_other : Others growing 2 4 (refuse Room)
unfolding is_data body_size records_after follows_by allowed_by well_formed data_in patches_in dump_of dumps_in held twice sound paper.roomed paper.outside paper.rebuilt paper.restored paper.laid_out paper.restore pack packs packs_at packets_for frame status_for joined words_of replaced
middle_other = refl

base_other : Others shorter 2 4 (Ok 4)
unfolding is_data body_size records_after follows_by allowed_by well_formed data_in patches_in dump_of dumps_in held twice sound paper.roomed paper.outside paper.rebuilt paper.restored paper.laid_out paper.restore pack packs packs_at packets_for frame status_for joined words_of replaced
base_other = refl

past_other : Puts one 1 6 5 7
unfolding is_data body_size records_after follows_by allowed_by well_formed data_in patches_in dump_of dumps_in held twice sound paper.roomed paper.outside paper.rebuilt paper.restored paper.laid_out paper.restore pack packs packs_at packets_for frame status_for joined words_of replaced
past_other = refl

kept_other : Puts (bare 3 3) 3 4 0 0
unfolding is_data body_size records_after follows_by allowed_by well_formed data_in patches_in dump_of dumps_in held twice sound paper.roomed paper.outside paper.rebuilt paper.restored paper.laid_out paper.restore pack packs packs_at packets_for frame status_for joined words_of replaced
kept_other = refl

base_words_other : Puts (two ++ one) 2 4 0 0x52030741
unfolding is_data body_size records_after follows_by allowed_by well_formed data_in patches_in dump_of dumps_in held twice sound paper.roomed paper.outside paper.rebuilt paper.restored paper.laid_out paper.restore pack packs packs_at packets_for frame status_for joined words_of replaced
base_words_other = refl

other : {b : Bool} → b ≡ false → T (not b)
other e = rw e tt

shut_out : Outcomes
shut_out =
    record {
      chains = λ fault κs a x s w p. never_refused (ap (λ o. o.0) (rw (w.0, w.1, w.2, w.3) at p) ∙ chain_is);
      beside = λ κs a x s w p. differ (told (λ (n : ℕ). n)) (other beside_other) (ap (λ o. o.0) (rw (w.0, w.1, w.2, w.3) at p));
      ring = λ words κs a x s w p. never_both (ap (λ o. o.0) (rw (w.0, w.1, w.2, w.3) at p) ∙ ring_is);
      middle = λ κs a x s w p. differ (told (λ (n : ℕ). n)) (other middle_other) (ap (λ o. o.0) (rw (w.0, w.1, w.2, w.3) at p));
      base = λ κs a x s w p. differ (told (λ (n : ℕ). n)) (other base_other) (ap (λ o. o.0) (rw (w.0, w.1, w.2, w.3) at p));
      past = λ κs a x s w p. differ (λ (n : ℕ). n) (other past_other) (rw w.3 at (ap (λ o. get_or o.1 5 0) (rw (w.0, w.1, w.2) at p)));
      kept = λ κs a x s w p. differ (λ (n : ℕ). n) (other kept_other) (rw w.3 at (ap (λ o. get_or o.1 0 0) (rw (w.0, w.1, w.2) at p)));
      base_words = λ κs a x s w p. differ (λ (n : ℕ). n) (other base_words_other) (rw w.3 at (ap (λ o. get_or o.1 0 0) (rw (w.0, w.1, w.2) at p)));
    }
