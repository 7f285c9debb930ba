-- Writing: the octets of a packet, a message in any packing, and the fewest-packet form.
-- Assumes nothing.
use Rattle.std.specs.Prelude.{◌≡◌, cond, List, ◌∷◌, ◌++◌, ℕ, suc, ◌+◌, ◌-◌, ◌*◌, ◌/◌, ◌<◌, eqb, length, take, drop, replicate}
use Rattle.ump.specs.Word.{words_of, Below}
use Rattle.ump.specs.Packet.{Shape, joined}

-- of packet p of n: one value if it stands alone, one for the first of several, for an inner one, for the last
abbrev pub by_place : {A : Type 0} → A → A → A → A → ℕ → ℕ → A
by_place alone begin inner last n p = cond (eqb n 1) alone (cond (eqb p 0) begin (cond (eqb (suc p) n) last inner))

-- the status of packet p of n: complete; start, continue, end
unfoldable pub status_for : ℕ → ℕ → ℕ
status_for n p = by_place 0 1 2 3 n p

-- the octets of a packet: type and group, status and count, stream id, payload, and what fills it up
unfoldable pub frame : Shape → ℕ → ℕ → List ℕ → List ℕ → List ℕ → List ℕ
frame shape status group id bytes filler =
    (shape.type * 16 + group)
    ∷ (status * 16 + (length bytes + shape.bias))
    ∷ (id ++ (bytes ++ filler))

-- a packing in n packets: packet p carries the piece p, however the payload is spread, and is filled up with the filler p
unfoldable pub packs_at : Shape → ℕ → List ℕ → ℕ → (ℕ → List ℕ) → (ℕ → List ℕ) → ℕ → List ℕ
packs_at shape group id n piece filler p = words_of (frame shape (status_for n p) group id (piece p) (filler p))

abbrev pub packs_filled : Shape → ℕ → List ℕ → ℕ → (ℕ → List ℕ) → (ℕ → List ℕ) → List ℕ
packs_filled shape group id n piece filler = joined (packs_at shape group id n piece filler) n

-- the layout rules for it: group and stream id fit, there is a packet, each is full of piece and filler, and their octets fit
pub record LaidOut (shape : Shape) (group : ℕ) (id : List ℕ) (n : ℕ) (piece filler : ℕ → List ℕ) : Type 0 where
  pub group_fits : group < 16
  pub id_is_long : length id ≡ shape.ids
  pub id_fits : Below 256 id
  pub some_packet : 0 < n
  pub filled : (p : ℕ) → p < n → length (piece p) + length (filler p) ≡ shape.room
  pub bytes_fit : (p : ℕ) → p < n → Below shape.limit (piece p)
  pub filler_fits : (p : ℕ) → p < n → Below 256 (filler p)

-- filled up with zeros
abbrev pub zeros_after : Shape → (ℕ → List ℕ) → ℕ → List ℕ
zeros_after shape piece p = replicate (shape.room - length (piece p)) 0

unfoldable pub packs : Shape → ℕ → List ℕ → ℕ → (ℕ → List ℕ) → List ℕ
packs shape group id n piece = packs_filled shape group id n piece (zeros_after shape piece)

-- the packets of the fewest-packet form of n bytes: one if n is 0, else n over the room, rounded up
unfoldable pub packets_for : Shape → ℕ → ℕ
packets_for shape n = cond (eqb n 0) 1 ((n - 1) / shape.room + 1)

-- and their words
abbrev pub words_for : Shape → ℕ → ℕ
words_for shape n = shape.words * packets_for shape n

-- the fewest-packet form: every packet but the last is full
abbrev pub chunk : Shape → List ℕ → ℕ → List ℕ
chunk shape bytes p = take shape.room (drop (shape.room * p) bytes)

unfoldable pub pack : Shape → ℕ → List ℕ → List ℕ → List ℕ
pack shape group id bytes = packs shape group id (packets_for shape (length bytes)) (chunk shape bytes)
