-- Pieces that come after the bytes that wait, and where they come from. Assumes nothing.
use Rattle.std.specs.Prelude.{◌≡◌, List, ℕ, ◌+◌, ◌-◌, ◌*◌, ◌/◌, ◌%◌, ◌^◌, ◌≤◌, ◌<◌, length, take, drop, get_or}
use Rattle.std.proofs.Common.{lit≤}
use Rattle.ump.specs.Word.{Below}
use Rattle.ump.specs.Packet.{sysex8}
use Rattle.ump.specs.Limits.{most_words}
use Rattle.flow.specs.Digits.{val}
use Rattle.flow.specs.Flowing.{flow_word, number_word, Put, Flow, Appended}
use Rattle.merge.specs.Thirteens.{body}
use Rattle.merge.specs.declared.held.Pending.{Pending}

-- the bytes that wait, as a number
abbrev pub waiting : Pending → ℕ
waiting p = p.high * 2 ^ 64 + p.low

-- no byte waits
abbrev pub none : ℕ → Pending
none packet = record { high = 0; low = 0; count = 0; packet = packet; fits = lit≤ tt }

-- how many bytes are taken
abbrev pub taken : Pending → ℕ
taken p = 13 * p.packet + p.count

-- nothing but zeros stands behind the bytes that wait
pub record Padded (p : Pending) : Type 0 where
  pub few : p.count < 13
  pub zeros : waiting p % 2 ^ (8 * (13 - p.count)) ≡ 0

-- so many words hold the packets that are full with some bytes more
pub record Reaches (room head : ℕ) (p : Pending) (some : ℕ) : Type 0 where
  pub padded : Padded p
  pub fits : 4 * ((taken p + some) / 13) ≤ room
  pub small : room ≤ most_words
  pub free : head ≤ 4294967040

-- a piece of some bytes, the first of this number, after what waits
pub record Appends (ws us : List ℕ) (head : ℕ) (p : Pending) (n some : ℕ) (r : Pending) : Type 0 where
  pub appended : Appended sysex8 ws us head p.packet p.count (waiting p) n some r.packet r.count (waiting r)

-- the bytes of `bytes` are taken up to those that wait
abbrev pub Flows : List ℕ → List ℕ → ℕ → Pending → List ℕ → Type 0
Flows w bytes head p us = Flow sysex8 w bytes head p.packet p.count (waiting p) us

-- some bytes more can be taken, and come from some words and bytes
pub record Runs (Comes : List ℕ → List ℕ → Type 0) (ws : List ℕ) (head : ℕ) (p : Pending) (some : ℕ) : Type 0 where
  pub w : List ℕ
  pub bytes : List ℕ
  pub flows : Flows w bytes head p ws
  pub below : Below 256 bytes
  pub enough : taken p + some ≤ length bytes
  pub comes : Comes w bytes
  pub room : 4 * ((taken p + some) / 13) ≤ length ws
  pub small : length ws ≤ most_words
  pub free : head ≤ 4294967040

-- some bytes more are taken, of whatever words and bytes they come from
pub record Goes (Comes : List ℕ → List ℕ → Type 0) (ws us : List ℕ) (head : ℕ) (p : Pending) (some : ℕ) (r : Pending) : Type 0 where
  pub long : length us ≡ length ws
  pub more : taken r ≡ taken p + some
  pub flows : (w bytes : List ℕ) → Flows w bytes head p ws → Below 256 bytes → taken p + some ≤ length bytes → Comes w bytes → Flows w bytes head r us

-- they are so many of these, from one on
abbrev pub Given : ℕ → ℕ → ℕ → List ℕ → List ℕ → List ℕ → Type 0
Given m from some lent w bytes = take some (drop m bytes) ≡ take some (drop from lent)

-- the packets of a payload stand so many packets on, from one packet on, all with this head
pub record Stands (w source : List ℕ) (head lag first : ℕ) : Type 0 where
  pub whole : (q r : ℕ) → first ≤ q → 13 * q + 13 ≤ length source → r < 4 → get_or w (4 * (q + lag) + r) 0 ≡ flow_word sysex8 head source (4 * q + r)
  pub part : (q s : ℕ) → first ≤ q → s ≤ 13 → 13 * q + s ≤ length source → take s (body w (q + lag)) ≡ take s (drop (13 * q) source)

-- they are bytes at..to of such a payload; the packet of the first, unless that is the packet's first byte, is the number `hand`
pub record Kept (head lag at to hand m : ℕ) (w bytes : List ℕ) : Type 0 where
  pub source : List ℕ
  pub first : ℕ
  pub stands : Stands w source head lag first
  pub behind : 13 * first ≤ at
  pub inside : at < to → to ≤ length source
  pub ahead : at < to → m ≤ at + 13 * lag + 12
  pub held : 0 < at % 13 → hand ≡ val 13 (body w (at / 13 + lag))
  pub same : take (to - at) (drop m bytes) ≡ take (to - at) (drop at source)

-- what waits is written as one of so many packets
pub record Flushed (ws : List ℕ) (head : ℕ) (p : Pending) (packets : ℕ) (us : List ℕ) : Type 0 where
  pub some : p.packet < packets → Put sysex8 ws p.packet head (waiting p) us
  pub none : packets ≤ p.packet → us ≡ ws

-- packets from..to are moved so many packets on, with this head; the words before and behind are as they were
pub record Moved (ws : List ℕ) (head from to by : ℕ) (us : List ℕ) : Type 0 where
  pub long : length us ≡ length ws
  pub before : (k : ℕ) → k < 4 * (from + by) → get_or us k 0 ≡ get_or ws k 0
  pub words : (p r : ℕ) → 0 < by → from ≤ p → p < to → r < 4 → get_or us (4 * (p + by) + r) 0 ≡ number_word sysex8 head (val 13 (body ws p)) r
  pub past : (k : ℕ) → 4 * (to + by) ≤ k → get_or us k 0 ≡ get_or ws k 0
  pub none : by ≡ 0 → us ≡ ws
