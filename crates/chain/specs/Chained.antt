-- What is promised of restoring and describing a dump (02, T-02), of any two calls.
-- Assumes nothing.
use Rattle.std.specs.Prelude.{Some, ◌≡◌, ◌↔◌, ◌⊎◌, List, [], ◌∷◌, ℕ, ◌≤◌, ◌<◌, length}
use Rattle.refusal.specs.Answer.{Answer, gives, refused, pass}
use Rattle.ump.specs.Packet.{sysex8}
use Rattle.ump.specs.Packing.{words_for}
use Rattle.ump.specs.Limits.{most_words}
use Rattle.ump.specs.Edits.{Patch}
use Rattle.store.specs.Store.{records_of, at_start, well_formed, Dump, delta, dumps_of, sound, held}
use Rattle.chain.specs.Walk.{base_of, comes, InRing, IsMissing, Rests}
use Rattle.chain.specs.Restore.{restore, Description, describe}

-- one list is the other in another order
pub data Shuffled {A : Type 0} : List A → List A → Type 0 where
  nothing : Shuffled [] []
  keep : {x : A} {xs ys : List A} → Shuffled xs ys → Shuffled (x ∷ xs) (x ∷ ys)
  swap : {x y : A} {xs : List A} → Shuffled (x ∷ (y ∷ xs)) (y ∷ (x ∷ xs))
  also : {xs ys zs : List A} → Shuffled xs ys → Shuffled ys zs → Shuffled xs zs

-- two stores with the same dumps in another order, both of good form or neither
pub record SameDumps (store other : List ℕ) : Type 0 where
  pub dumps : Shuffled (dumps_of store) (dumps_of other)
  pub form : well_formed at_start (records_of store) ≡ well_formed at_start (records_of other)

-- A dump was made a delta against its own descendant: n is held as a delta of a dump from which following bases, in any number of steps,
-- comes to n.
pub record Reencoded (dumps : List Dump) (n : ℕ) : Type 0 where
  pub descendant : ℕ
  pub patches : List Patch
  pub steps : ℕ
  pub is_held : held dumps n ≡ Some (delta n descendant patches)
  pub descends : comes dumps steps descendant ≡ Some n

-- what a description says of the walk: it comes in so many steps to a whole dump of this group and stream id
pub record Foot (dumps : List Dump) (n : ℕ) (d : Description) : Type 0 where
  pub walk : Rests dumps n
  pub base : d.base ≡ base_of (held dumps n)
  pub steps : d.steps ≡ walk.steps
  pub group : d.group ≡ walk.group
  pub id : d.id ≡ walk.id

-- ---- the calls

-- restoring: the store, the number and the words lent; the answer, and the words as they are after the call
abbrev pub Restorer : Type 1
Restorer = List ℕ → ℕ → List ℕ → Answer ℕ → List ℕ → Type 0

-- describing: the store and the number; the answer
abbrev pub Describer : Type 1
Describer = List ℕ → ℕ → Answer Description → Type 0

-- a call that has an outcome
pub record Answers {A B : Type 0} (Call : Answer A → B → Type 0) : Type 0 where
  pub answer : Answer A
  pub left : B
  pub call : Call answer left

pub record Chained (Restores : Restorer) (Describes : Describer) : Type 0 where
  -- Each store, number and words have an outcome, so that nothing here is said of none.
  pub answers : (store : List ℕ) (n : ℕ)
      → ((words : List ℕ) → Answers (Restores store n words))
      × Answers (λ (answer : Answer Description) (left : Unit {0}). Describes store n answer)
  -- A refused restore leaves the words as they were.
  pub refusal_keeps : {store : List ℕ} {n : ℕ} {words : List ℕ} {number place : ℕ} {left : List ℕ}
      → Restores store n words (refused number place) left → left ≡ words
  -- Every walk has one of three ends: a ring, a number not held, a whole dump;
  pub some_end : (dumps : List Dump) (n : ℕ) → InRing dumps n ⊎ IsMissing dumps n ⊎ Rests dumps n
  -- and never two of them.
  pub one_end : (dumps : List Dump) (n : ℕ)
      → (InRing dumps n → IsMissing dumps n → ⊥) × (InRing dumps n → Rests dumps n → ⊥) × (IsMissing dumps n → Rests dumps n → ⊥)
  -- In a sound store, a dump is refused as a ring exactly if following bases from it comes back to a number already passed,
  pub ring_exactly : {store : List ℕ} {n : ℕ} {words : List ℕ} {answer : Answer ℕ} {left : List ℕ} → Restores store n words answer left
      → sound store ≡ pass → length words ≤ most_words → (answer ≡ refused 25 0) ↔ InRing (dumps_of store) n
  -- and Missing is given exactly if the walk comes to a number not held.
  pub missing_exactly : {store : List ℕ} {n : ℕ} {words : List ℕ} {answer : Answer ℕ} {left : List ℕ} → Restores store n words answer left
      → sound store ≡ pass → length words ≤ most_words → (answer ≡ refused 24 0) ↔ IsMissing (dumps_of store) n
  -- What is restored rests on a whole dump.
  pub accepted_rests : {store : List ℕ} {n : ℕ} {words : List ℕ} {count : ℕ} {left : List ℕ} → Restores store n words (gives count) left
      → Rests (dumps_of store) n
  -- A dump made a delta against its own descendant, and every dump whose walk comes to it, is refused as a ring; the words stay.
  pub re_encoded : {store : List ℕ} {n : ℕ} → sound store ≡ pass → Reencoded (dumps_of store) n
      → (m steps : ℕ) → comes (dumps_of store) steps m ≡ Some n
      → {words : List ℕ} {answer : Answer ℕ} {left : List ℕ} → length words ≤ most_words → Restores store m words answer left
      → (answer ≡ refused 25 0) × (left ≡ words)
  -- A delta without edits is restored as its base is: the same answer, whatever it is, and the same words left.
  pub bare : {store : List ℕ} {n number base : ℕ} → held (dumps_of store) n ≡ Some (delta number base [])
      → {words : List ℕ} {answer then : Answer ℕ} {left after : List ℕ} → Restores store n words answer left
      → Restores store base words then after
      → (answer ≡ then) × (left ≡ after)
  -- The order of the dumps in the store does not matter: the same answer, whatever it is, and the same words left;
  pub any_order : {store other : List ℕ} → SameDumps store other → {n : ℕ} {words : List ℕ} {answer then : Answer ℕ} {left after : List ℕ}
      → Restores store n words answer left → Restores other n words then after → (answer ≡ then) × (left ≡ after)
  -- and the same description.
  pub any_order_described : {store other : List ℕ} → SameDumps store other → {n : ℕ} {answer then : Answer Description}
      → Describes store n answer → Describes other n then → answer ≡ then
  -- A description says where the walk ends.
  pub described_foot : {store : List ℕ} {n : ℕ} {d : Description} → Describes store n (gives d) → Foot (dumps_of store) n d
  -- A dump that is described is restored exactly if as many words are lent as its description says, else it has no Room.
  pub described_words : {store : List ℕ} {n : ℕ} {d : Description} → Describes store n (gives d)
      → {words : List ℕ} {answer : Answer ℕ} {left : List ℕ} → length words ≤ most_words → Restores store n words answer left
      → (d.words ≤ length words → answer ≡ gives (words_for sysex8 d.size)) × (length words < d.words → answer ≡ refused 14 0)
  -- A dump whose description is refused is not restored: the same refusal, or Room where that was Range.
  pub described_refused : {store : List ℕ} {n number place : ℕ} → Describes store n (refused number place)
      → {words : List ℕ} {answer : Answer ℕ} {left : List ℕ} → length words ≤ most_words → Restores store n words answer left
      → (answer ≡ refused number place) ⊎ ((number ≡ 13) × (answer ≡ refused 14 0))

-- each outcome of such calls is the definition's, and the definition's is one
pub record PromisedChain (Restores : Restorer) (Describes : Describer) : Type 0 where
  pub restores : {store : List ℕ} {n : ℕ} {words : List ℕ} {answer : Answer ℕ} {left : List ℕ} → Restores store n words answer left
      → ◌≡◌ {A = Answer ℕ × List ℕ} (answer, left) (restore store n words)
  pub describes : {store : List ℕ} {n : ℕ} {answer : Answer Description} → Describes store n answer → answer ≡ describe store n
  pub can_restore : {store : List ℕ} {n : ℕ} {words : List ℕ} {answer : Answer ℕ} {left : List ℕ}
      → restore store n words ≡ (answer, left) → Restores store n words answer left
  pub can_describe : {store : List ℕ} {n : ℕ} {answer : Answer Description} → describe store n ≡ answer → Describes store n answer
