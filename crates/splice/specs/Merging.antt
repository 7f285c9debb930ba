-- All edits of a list, in one pass over a payload or in two. Assumes nothing.
use Rattle.std.specs.Prelude.{◌≡◌, List, [], ◌∷◌, ℕ, ◌+◌, ◌-◌, ◌/◌, ◌%◌, ◌≤◌, ◌<◌, length}
use Rattle.ump.specs.Word.{Below}
use Rattle.ump.specs.Limits.{most_words, most_bytes}
use Rattle.ump.specs.Packet.{sysex8}
use Rattle.ump.specs.Packing.{packets_for, words_for}
use Rattle.ump.specs.Check.{payload_of}
use Rattle.ump.specs.Edits.{Edit, Apart, edit_in, edits_of, lengths, patches_of, per_edit, replaced}
use Rattle.flow.specs.Flowing.{Poured}
use Rattle.merge.specs.Pieces.{Stands}
use Rattle.merge.specs.Pass.{width}
use Rattle.message.specs.Accepted.{Accepted}

-- no first edits of the list grow the payload by more than so many bytes, where so many are put in and taken out before
unfoldable pub Within : ℕ → ℕ → ℕ → List Edit → Type 0
Within room added removed [] = Unit {0}
Within room added removed (edit ∷ edits) =
    (added + edit.length ≤ removed + width edit + room) × Within room (added + edit.length) (removed + width edit) edits

-- the size of a payload of n bytes after the edits that do not grow it
unfoldable pub less_after : ℕ → List Edit → ℕ
less_after n [] = n
less_after n (edit ∷ edits) = less_after (n - (width edit - edit.length)) edits

-- a list of edits of a message that passed the check, with room for the result
pub record Listed (words : List ℕ) (len size total : ℕ) (numbers bytes : List ℕ) : Type 0 where
  pub passed : Accepted words len size
  pub apart : Apart (patches_of (edits_of numbers) bytes) size
  pub given : lengths (edits_of numbers) ≡ length bytes
  pub sized : total ≡ length (replaced (payload_of sysex8 words len) (patches_of (edits_of numbers) bytes))
  pub room : words_for sysex8 total ≤ length words

-- bytes that edits take out
unfoldable pub widths : List Edit → ℕ
widths [] = 0
widths (edit ∷ edits) = width edit + widths edits

-- ranges are never reversed, and neither their widths nor the lengths come to more than a message holds
pub record Summed (numbers : List ℕ) : Type 0 where
  pub forward : (i : ℕ) → i < length numbers / per_edit → (edit_in numbers i).from ≤ (edit_in numbers i).to
  pub out : widths (edits_of numbers) ≤ most_bytes
  pub put : lengths (edits_of numbers) ≤ most_bytes

-- all edits of a list can be done on the words
pub record Lists (words : List ℕ) (head size total : ℕ) (numbers bytes source : List ℕ) : Type 0 where
  pub sized : size ≡ length source
  pub stands : Stands words source head 0 0
  pub below : Below 256 source
  pub apart : Apart (patches_of (edits_of numbers) bytes) size
  pub given : lengths (edits_of numbers) ≡ length bytes
  pub result : total ≡ length (replaced source (patches_of (edits_of numbers) bytes))
  pub held : words_for sysex8 size ≤ length words
  pub needed : words_for sysex8 total ≤ length words
  pub small : length words ≤ most_words
  pub free : head ≤ 4294967040
  pub plain : head % 256 ≡ 0

pub record BeginsAll (words : List ℕ) (head size total : ℕ) (numbers bytes : List ℕ) : Type 0 where
  pub source : List ℕ
  pub lists : Lists words head size total numbers bytes source

-- and when they are, all ranges are replaced
abbrev pub EndsAll : List ℕ → ℕ → ℕ → ℕ → List ℕ → List ℕ → List ℕ → Type 0
EndsAll words head size total numbers bytes words' =
    (source : List ℕ) → Lists words head size total numbers bytes source
    → Poured sysex8 words (replaced source (patches_of (edits_of numbers) bytes)) head (packets_for sysex8 total) words'
