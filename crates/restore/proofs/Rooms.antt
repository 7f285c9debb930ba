-- A dump laid out: Range, Room. Assumes nothing.
use Rattle.std.specs.Prelude.{Result, Ok, Err, Option}
use Rattle.chain.specs.declared.edits.Reached.{Reached}
use mathlib.Core.Path.{◌≡◌, sym, ap, ◌∙◌}
use mathlib.Core.Bool.{Bool, true, false}
use mathlib.Core.List.{List}
use Prim.Native.Nat.{ℕ, ◌*◌, ◌≤◌, ◌<◌}
use native.Mathlib.Omega.{arith}
use lib.ListN.{length, take}
use lib.Seq.{length-take-le}
use borrow.Author.Tests.{lt-ltb, le-ltb}
use Rattle.refusal.specs.Answer.{Answer, gives, refused}
use Rattle.refusal.specs.Number.{number_of}
use Rattle.refusal.specs.declared.Refusal.{Refusal}
use Rattle.refusal.specs.declared.Refusal.TheVariants.{Range, Room}
use Rattle.ump.specs.Packet.{sysex8}
use Rattle.ump.specs.Packing.{words_for}
use Rattle.ump.proofs.Sizes.{packets_enough}
use Rattle.ump.specs.Edits.{Patch, replaced}
use Rattle.store.specs.Store.{data_in, patches_in}
use Rattle.store.specs.Places.{next_at, records_from}
use Rattle.chain.specs.Restore.{Payload, exceeds, roomed, outside, rebuilt}
use Rattle.chain.specs.Laying.{whole_at}
use Rattle.restore.specs.Laying.{Ran, Filling, laid_meaning, Lays, base_in}
use Rattle.restore.specs.declared.restoring.Held.{Held}

-- more bytes than a scratch has need more words than are lent, if it has 13 bytes for each 4 words
pub over_room : (lent m n : ℕ) → 13 * lent ≤ 4 * m → m < n → lent < words_for sysex8 n
over_room lent m n h k = omega (arith, packets_enough sysex8 n)

-- ---- an answer and its bytes

pub lays_refused : {answer : Answer Payload} {scratch : List ℕ} (refusal : Refusal) → answer ≡ refused (number_of refusal) 0 → Lays answer (Err refusal) scratch
lays_refused refusal e = record { means = sym e; inside = tt }

pub lays_as : {answer answer' : Answer Payload} {r : (Result Held Refusal)} {scratch : List ℕ} → answer ≡ answer' → Lays answer r scratch → Lays answer' r scratch
lays_as e l = record { means = l.means ∙ e; inside = l.inside }

module _ (lent : ℕ) (p : Payload) where
  pub room_not : {scratch : List ℕ} → lent < words_for sysex8 (length p.bytes) → Lays (roomed (exceeds lent) p) (Err Room) scratch
  unfolding roomed
  room_not h = lays_refused Room (rw (lt-ltb lent (words_for sysex8 (length p.bytes)) h))

  pub room_over : (before : List ℕ) {scratch : List ℕ} → 13 * lent ≤ 4 * length before → length before < length p.bytes → Lays (roomed (exceeds lent) p) (Err Room) scratch
  room_over before h o = room_not (over_room lent (length before) (length p.bytes) h o)

  long : (scratch : List ℕ) (size : ℕ) → size ≤ length scratch → take size scratch ≡ p.bytes → words_for sysex8 (length p.bytes) ≡ words_for sysex8 size
  long scratch size k e = ap (words_for sysex8) (ap length (sym e) ∙ length-take-le size scratch k)

  module _ {scratch : List ℕ} (size : ℕ) (f : (size ≤ length scratch) × (take size scratch ≡ p.bytes)) {words : ℕ} (w : words ≡ words_for sysex8 size) where
    pub room_short : lent < words → Lays (roomed (exceeds lent) p) (Err Room) scratch
    room_short h = room_not (omega (arith, w, long scratch size f.0 f.1))

    pub room_is : {group id : ℕ} → words ≤ lent → group ≡ p.group → id ≡ p.id → Lays (roomed (exceeds lent) p) (Ok (record { group = group; id = id; size = size })) scratch
    unfolding roomed
    room_is h g i =
        record {
          means = rw (le-ltb lent (words_for sysex8 (length p.bytes)) (omega (arith, w, long scratch size f.0 f.1)), g, i, f.1);
          inside = f.0;
        }

-- ---- a delta from its base

module _ (too_long : ℕ → Bool) (patches : List Patch) (base : Payload) where
  pub rebuilt_range : {scratch : List ℕ} → outside (length base.bytes) patches ≡ true → Lays (rebuilt too_long patches (gives base)) (Err Range) scratch
  unfolding rebuilt
  rebuilt_range e = lays_refused Range (rw e)

  pub rebuilt-roomed : {r : (Result Held Refusal)} {scratch : List ℕ} → outside (length base.bytes) patches ≡ false
      → Lays (roomed too_long (record { group = base.group; id = base.id; bytes = replaced base.bytes patches })) r scratch → Lays (rebuilt too_long patches (gives base)) r scratch
  unfolding rebuilt
  rebuilt-roomed e l = lays_as (rw e) l

-- the edits behind it, and a base in a scratch
pub outside_here : (store : List ℕ) (at : ℕ) (size : ℕ) (base : List ℕ) {n : ℕ} {b : Bool} → size ≤ length base → n ≡ next_at store at → outside size (patches_in (records_from store n)) ≡ b
    → outside (length (take size base)) (patches_in (records_from store (next_at store at))) ≡ b
outside_here store at size base h q e = rw (length-take-le size base h, ← q, e)

-- the data behind a record that was found
pub data_behind : (store : List ℕ) (at : ℕ) {n : ℕ} {before after : List ℕ} {r : (Option Reached)} → n ≡ next_at store at → Ran store n (data_in (records_from store n)) before r after
    → Ran store (next_at store at) (whole_at store at).bytes before r after
data_behind store at q f = rw q at f

pub edits_behind : (store : List ℕ) (at : ℕ) (base : List ℕ) {n : ℕ} {before after : List ℕ} {r : (Option ℕ)} → n ≡ next_at store at → Filling (replaced base (patches_in (records_from store n))) before r after
    → Filling (replaced base (patches_in (records_from store (next_at store at)))) before r after
edits_behind store at base q f = rw q at f

-- a base that was laid out, or refused
pub base_refused : {answer : Answer Payload} {r : (Result Held Refusal)} {scratch : List ℕ} {refusal : Refusal} → Lays answer r scratch → r ≡ Err refusal
    → answer ≡ refused (number_of refusal) 0
base_refused {scratch = scratch} l e = sym l.means ∙ ap (λ (x : (Result Held Refusal)). laid_meaning x scratch) e

pub base_given : {answer : Answer Payload} {r : (Result Held Refusal)} {scratch : List ℕ} {base : Held} → Lays answer r scratch → r ≡ Ok base → answer ≡ gives (base_in base scratch)
base_given {scratch = scratch} l e = sym l.means ∙ ap (λ (x : (Result Held Refusal)). laid_meaning x scratch) e

pub base_inside : {answer : Answer Payload} {r : (Result Held Refusal)} {scratch : List ℕ} {base : Held} → Lays answer r scratch → r ≡ Ok base → base.size ≤ length scratch
base_inside l e = rw e at l.inside
