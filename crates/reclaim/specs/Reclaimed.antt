-- What is promised of marking and collecting (02, T-13), of any calls.
-- Assumes nothing.
use Rattle.std.specs.Prelude.{Some, ◌≡◌, ◌↔◌, true, false, not, ◌&&◌, List, [], ◌∷◌, ◌++◌, ℕ, suc, ◌+◌, ◌-◌, ◌≤◌, ◌<◌, eqb, length, get_or, take, drop, set, replicate}
use Rattle.refusal.specs.Answer.{Answer, gives, refused, Verdict, pass}
use Rattle.ump.specs.Word.{pair_at}
use Rattle.ump.specs.Limits.{most_words}
use Rattle.ump.specs.Edits.{elem}
use Rattle.store.specs.Store.{check_store, is_dump, records_of, at_start, well_formed, Dump, dump_number, dumps_of, held, numbers_of, sound}
use Rattle.chain.specs.Walk.{comes}
use Rattle.chain.specs.Restore.{Description}
use Rattle.chain.specs.Chained.{Restorer, Describer, Answers, PromisedChain}
use Rattle.reclaim.specs.Reclaim.{marked_kind, mark, wanted_of, stays, kept_in, collect}

-- the walk of a wanted dump comes to n: it is wanted itself, or a wanted dump rests on it
pub record Needed (store : List ℕ) (n : ℕ) : Type 0 where
  pub wanted : ℕ
  pub is-wanted : elem wanted (wanted_of store) ≡ true
  pub steps : ℕ
  pub come : comes (dumps_of store) steps wanted ≡ Some n

-- at most one byte is another: the kind in the record that begins the dump of this number
pub record MarksOne (store : List ℕ) (n : ℕ) (left : List ℕ) : Type 0 where
  pub at : ℕ
  pub record_here : records_of store ≡ records_of (take at store) ++ records_of (drop at store)
  pub dump_here : (at < length store) × (is_dump (get_or store at 0) ≡ true)
  pub number : pair_at store (at + 1) ≡ n
  pub is : left ≡ set store at (marked_kind (get_or store at 0))

-- a store made of dumps of another
abbrev pub PartOf : List ℕ → List ℕ → Type 0
PartOf other store = (n : ℕ) (d : Dump) → held (dumps_of other) n ≡ Some d → held (dumps_of store) n ≡ Some d

-- ---- the calls

-- checking: the store; the answer
abbrev pub Checker : Type 1
Checker = List ℕ → Answer ℕ → Type 0

-- marking: the store and the number; the answer, and the store as it is after the call
abbrev pub Marker : Type 1
Marker = List ℕ → ℕ → Verdict → List ℕ → Type 0

-- collecting: the store; the answer, and the store as it is after the call
abbrev pub Collector : Type 1
Collector = List ℕ → Answer ℕ → List ℕ → Type 0

pub record Reclaimed (Checks : Checker) (Restores : Restorer) (Describes : Describer) (Marks : Marker) (Collects : Collector) : Type 0 where
  -- Each store and number have an outcome, so that nothing here is said of none (of restoring and describing: `Chained.answers`).
  pub answers : (store : List ℕ)
      → Answers (λ (answer : Answer ℕ) (left : Unit {0}). Checks store answer) × ((n : ℕ) → Answers (Marks store n)) × Answers (Collects store)
  -- A refusal leaves the store as it was.
  pub mark_refused : {store : List ℕ} {n number place : ℕ} {left : List ℕ} → Marks store n (refused number place) left → left ≡ store
  pub collect_refused : {store : List ℕ} {number place : ℕ} {left : List ℕ} → Collects store (refused number place) left → left ≡ store
  -- Marking changes at most one byte, the kind of that dump;
  pub marks_one : {store : List ℕ} {n : ℕ} {left : List ℕ} → Marks store n pass left → MarksOne store n left
  -- that dump is not wanted then, each other is if it was;
  pub marks_wanted : {store : List ℕ} {n : ℕ} {left : List ℕ} → Marks store n pass left
      → (m : ℕ) → elem m (wanted_of left) ≡ (elem m (wanted_of store) && not (eqb m n))
  -- the check, each restore and each description are what they were;
  pub marks_checked : {store : List ℕ} {n : ℕ} {verdict : Verdict} {left : List ℕ} → Marks store n verdict left
      → {answer then : Answer ℕ} → Checks store answer → Checks left then → answer ≡ then
  pub marks_restored : {store : List ℕ} {n : ℕ} {verdict : Verdict} {left : List ℕ} → Marks store n verdict left
      → {m : ℕ} {words : List ℕ} {answer then : Answer ℕ} {old new : List ℕ} → Restores store m words answer old → Restores left m words then new
      → (answer ≡ then) × (old ≡ new)
  pub marks_described : {store : List ℕ} {n : ℕ} {verdict : Verdict} {left : List ℕ} → Marks store n verdict left
      → {m : ℕ} {answer then : Answer Description} → Describes store m answer → Describes left m then → answer ≡ then
  -- marking again is accepted and changes nothing.
  pub marks_again : {store : List ℕ} {n : ℕ} {left : List ℕ} → Marks store n pass left
      → {verdict : Verdict} {after : List ℕ} → Marks left n verdict after → (verdict ≡ pass) × (after ≡ left)
  -- The numbers that stay are those of the wanted dumps' walks, whatever end these have.
  pub stays_exactly : (store : List ℕ) (n : ℕ) → (stays store n ≡ true) ↔ Needed store n
  -- Collecting never grows the store: the bytes lent are those in use, so many as answered, and then zeros.
  pub never_grows : {store : List ℕ} {len : ℕ} {left : List ℕ} → Collects store (gives len) left
      → (len ≤ length store) × (left ≡ take len left ++ replicate (length store - len) 0)
  -- The bytes in use are a good store; its records are those of the dumps that stay, in their old order,
  pub good : {store : List ℕ} {len : ℕ} {left : List ℕ} → Collects store (gives len) left
      → (sound (take len left) ≡ pass) × (records_of (take len left) ≡ kept_in (stays store) false (records_of store))
  -- so that it holds exactly these dumps,
  pub kept_exactly : {store : List ℕ} {len : ℕ} {left : List ℕ} → Collects store (gives len) left
      → (n : ℕ) (d : Dump) → (held (dumps_of (take len left)) n ≡ Some d) ↔ ((held (dumps_of store) n ≡ Some d) × Needed store n)
  -- and the same dumps are wanted.
  pub same_wanted : {store : List ℕ} {len : ℕ} {left : List ℕ} → Collects store (gives len) left → wanted_of (take len left) ≡ wanted_of store
  -- Each wanted dump, and each that one rests on, is restored as before: the same answer, whatever it is, and the same words left;
  pub same-restored : {store : List ℕ} {len : ℕ} {left : List ℕ} → Collects store (gives len) left → {n : ℕ} → Needed store n
      → {words : List ℕ} {answer then : Answer ℕ} {old new : List ℕ} → Restores store n words answer old
      → Restores (take len left) n words then new
      → (answer ≡ then) × (old ≡ new)
  -- and has the same description.
  pub same_described : {store : List ℕ} {len : ℕ} {left : List ℕ} → Collects store (gives len) left → {n : ℕ} → Needed store n
      → {answer then : Answer Description} → Describes store n answer → Describes (take len left) n then → answer ≡ then
  -- Any other number is Missing then, to restore, to describe and to mark,
  pub freed_missing : {store : List ℕ} {len : ℕ} {left : List ℕ} → Collects store (gives len) left → {n : ℕ} → (Needed store n → ⊥)
      → {words : List ℕ} {answer : Answer ℕ} {new : List ℕ} → length words ≤ most_words → Restores (take len left) n words answer new
      → (answer ≡ refused 24 0) × (new ≡ words)
  pub freed_described : {store : List ℕ} {len : ℕ} {left : List ℕ} → Collects store (gives len) left → {n : ℕ} → (Needed store n → ⊥)
      → {answer : Answer Description} → Describes (take len left) n answer → answer ≡ refused 24 0
  pub freed_unmarked : {store : List ℕ} {len : ℕ} {left : List ℕ} → Collects store (gives len) left → {n : ℕ} → (Needed store n → ⊥)
      → {verdict : Verdict} {after : List ℕ} → Marks (take len left) n verdict after → verdict ≡ refused 24 0
  -- and may be used again: with one more dump of that number behind it the store passes the check, and holds it, where it was Twice before.
  pub used_again : {store : List ℕ} {len : ℕ} {left : List ℕ} → Collects store (gives len) left
      → (more : List ℕ) {d : Dump} → well_formed at_start (records_of more) ≡ true → dumps_of more ≡ d ∷ []
      → elem (dump_number d) (numbers_of (dumps_of store)) ≡ true → (Needed store (dump_number d) → ⊥)
      → {answer then : Answer ℕ} → Checks (store ++ more) answer → Checks (take len left ++ more) then
      → (answer ≡ refused 22 0) × (then ≡ gives (suc (length (dumps_of (take len left)))))
      × (held (dumps_of (take len left ++ more)) (dump_number d) ≡ Some d)
  -- Collecting again changes nothing further.
  pub collects_again : {store : List ℕ} {len : ℕ} {left : List ℕ} → Collects store (gives len) left
      → {answer : Answer ℕ} {after : List ℕ} → Collects (take len left) answer after → (answer ≡ gives len) × (after ≡ take len left)
  -- Nothing less would do. Take a store made of dumps of this one that answers the same for a wanted dump, for some words lent, and the
  -- answer is not Missing: it holds each dump of that walk. Nor would it do where the answer is Missing, as soon as what lacks is added:
  -- `more` stands behind both.
  pub fewest : (store other more : List ℕ) → sound store ≡ pass → sound other ≡ pass → PartOf other store
      → well_formed at_start (records_of more) ≡ true → sound (store ++ more) ≡ pass → sound (other ++ more) ≡ pass
      → (w n steps : ℕ) {d : Dump} → elem w (wanted_of store) ≡ true → comes (dumps_of store) steps w ≡ Some n → held (dumps_of store) n ≡ Some d
      → {words : List ℕ} {answer : Answer ℕ} {old new : List ℕ} → length words ≤ most_words → (answer ≡ refused 24 0 → ⊥)
      → Restores (store ++ more) w words answer old → Restores (other ++ more) w words answer new
      → held (dumps_of other) n ≡ Some d

-- each outcome of such calls is the definition's, and the definition's is one
pub record PromisedStore (Checks : Checker) (Restores : Restorer) (Describes : Describer) (Marks : Marker) (Collects : Collector) : Type 0 where
  pub checks : {store : List ℕ} {answer : Answer ℕ} → Checks store answer → answer ≡ check_store store
  pub dumps : PromisedChain Restores Describes
  pub marks : {store : List ℕ} {n : ℕ} {verdict : Verdict} {left : List ℕ} → Marks store n verdict left
      → ◌≡◌ {A = Verdict × List ℕ} (verdict, left) (mark store n)
  pub collects : {store : List ℕ} {answer : Answer ℕ} {left : List ℕ} → Collects store answer left
      → ◌≡◌ {A = Answer ℕ × List ℕ} (answer, left) (collect store)
  pub can_check : {store : List ℕ} {answer : Answer ℕ} → check_store store ≡ answer → Checks store answer
  pub can_mark : {store : List ℕ} {n : ℕ} {verdict : Verdict} {left : List ℕ} → mark store n ≡ (verdict, left) → Marks store n verdict left
  pub can_collect : {store : List ℕ} {answer : Answer ℕ} {left : List ℕ} → collect store ≡ (answer, left) → Collects store answer left
