-- What is promised of looking for a byte of a dump (02, T-08), of any calls.
-- Assumes nothing.
use Rattle.std.specs.Prelude.{◌≡◌, ◌↔◌, List, ℕ, ◌≤◌, ◌<◌}
use Rattle.refusal.specs.Answer.{Answer, gives, refused}
use Rattle.refusal.specs.Number.{Named}
use Rattle.ump.specs.Word.{Below}
use Rattle.ump.specs.Packet.{sysex8}
use Rattle.ump.specs.Setters.{get_byte}
use Rattle.chain.specs.Restore.{Description}
use Rattle.chain.specs.Chained.{Restorer, Describer, Answers, PromisedChain}
use Rattle.look.specs.Looked.{Reader}
use Rattle.look_store.specs.Byte.{byte_of_dump}

-- ---- the calls

-- looking: the store, the number and the position; the answer
abbrev pub DumpLooker : Type 1
DumpLooker = List ℕ → ℕ → ℕ → Answer ℕ → Type 0

-- an answer that is a byte
pub record GivesByte (answer : Answer ℕ) : Type 0 where
  pub value : ℕ
  pub is : answer ≡ gives value

pub record Looked (Restores : Restorer) (Describes : Describer) (Reads : Reader) (LooksAt : DumpLooker) : Type 0 where
  -- Each store, number and position have an outcome, and so has each byte of a message that a restore left, so that nothing here is said of
  -- none (of restoring and describing: `Chained.answers`).
  pub answers : (store : List ℕ) (n i : ℕ) → Answers (λ (answer : Answer ℕ) (left : Unit {0}). LooksAt store n i answer)
  pub readable : {store : List ℕ} {n : ℕ} {words : List ℕ} {len : ℕ} {left : List ℕ} → Restores store n words (gives len) left
      → Below 256 store → (i : ℕ) → Answers (λ (answer : Answer ℕ) (exit : Unit {0}). Reads left len i answer)
  -- Of a dump that is restored, in whatever words, looking gives at each position what reading the message then gives: the same byte, and
  -- Range behind the last.
  pub as_restored : {store : List ℕ} {n : ℕ} {words : List ℕ} {len : ℕ} {left : List ℕ} → Restores store n words (gives len) left
      → Below 256 store → {i : ℕ} {answer then : Answer ℕ} → LooksAt store n i answer → Reads left len i then → answer ≡ then
  -- A dump whose description is refused is refused so at each position.
  pub as_refused : {store : List ℕ} {n number place : ℕ} → Describes store n (refused number place)
      → {i : ℕ} {answer : Answer ℕ} → LooksAt store n i answer → answer ≡ refused number place
  -- A dump that is described has a byte exactly at the positions below its size, and Range at all others.
  pub as_described : {store : List ℕ} {n : ℕ} {d : Description} → Describes store n (gives d)
      → {i : ℕ} {answer : Answer ℕ} → LooksAt store n i answer
      → (GivesByte answer ↔ (i < d.size)) × (d.size ≤ i → answer ≡ refused 13 0)
  -- A refusal other than Range is given exactly if the description is refused so.
  pub refused_exactly : {store : List ℕ} {n : ℕ} {then : Answer Description} → Describes store n then
      → {i : ℕ} {answer : Answer ℕ} → LooksAt store n i answer
      → {number place : ℕ} → (number ≡ 13 → ⊥) → (answer ≡ refused number place) ↔ (then ≡ refused number place)

-- each outcome of such calls is the definition's, and the definition's is one
pub record PromisedLook (Restores : Restorer) (Describes : Describer) (Reads : Reader) (LooksAt : DumpLooker) : Type 0 where
  pub dumps : PromisedChain Restores Describes
  pub reads : {words : List ℕ} {len i : ℕ} {answer : Answer ℕ} → Reads words len i answer → answer ≡ get_byte sysex8 words len i
  pub looks : {store : List ℕ} {n i : ℕ} {answer : Answer ℕ} → LooksAt store n i answer → answer ≡ byte_of_dump store n i
  pub can_read : {words : List ℕ} {len i : ℕ} {answer : Answer ℕ} → get_byte sysex8 words len i ≡ answer → Named answer → Reads words len i answer
  pub can_look : {store : List ℕ} {n i : ℕ} {answer : Answer ℕ} → byte_of_dump store n i ≡ answer → LooksAt store n i answer
