-- Bytes that flow into packets of any shape: what is written and what waits once some of them have been taken. Assumes nothing.
use Rattle.std.specs.Prelude.{◌≡◌, cond, List, ℕ, ◌+◌, ◌-◌, ◌*◌, ◌/◌, ◌%◌, ◌^◌, ◌≤◌, ◌<◌, eqb, length, take, drop, get_or}
use Rattle.ump.specs.Packet.{Shape}
use Rattle.flow.specs.Digits.{val}

-- the payload octets of a packet's first word
abbrev pub firsts : Shape → ℕ
firsts shape = shape.room - 4 * (shape.words - 1)

-- word r of a packet with this head whose payload octets are the number n
unfoldable pub number_word : Shape → ℕ → ℕ → ℕ → ℕ
number_word shape head n r =
    cond (eqb r 0) (head + n / 2 ^ (32 * (shape.words - 1))) (n / 2 ^ (32 * (shape.words - 1 - r)) % 2 ^ 32)

-- word k of packets that carry `room` bytes each, with one head
unfoldable pub flow_word : Shape → ℕ → List ℕ → ℕ → ℕ
flow_word shape head bytes k = number_word shape head (val shape.room (drop (shape.room * (k / shape.words)) bytes)) (k % shape.words)

-- packet p is written from the number of its payload octets, and nothing else
pub record Put (shape : Shape) (ws : List ℕ) (p head n : ℕ) (us : List ℕ) : Type 0 where
  pub long : length us ≡ length ws
  pub here : (r : ℕ) → r < shape.words → get_or us (shape.words * p + r) 0 ≡ number_word shape head n r
  pub before : (k : ℕ) → k < shape.words * p → get_or us k 0 ≡ get_or ws k 0
  pub behind : (k : ℕ) → shape.words * p + shape.words ≤ k → get_or us k 0 ≡ get_or ws k 0

-- room * q + c bytes are taken: q packets are written, the words behind them are as they were, and c bytes wait as the number n
pub record Flow (shape : Shape) (w bytes : List ℕ) (head q c n : ℕ) (us : List ℕ) : Type 0 where
  pub long : length us ≡ length w
  pub few : c < shape.room
  pub done : (k : ℕ) → k < shape.words * q → get_or us k 0 ≡ flow_word shape head bytes k
  pub rest : (k : ℕ) → shape.words * q ≤ k → get_or us k 0 ≡ get_or w k 0
  pub waits : n ≡ val shape.room (take c (drop (shape.room * q) bytes))

-- s bytes more, the first of the number x, after the c that wait as the number n: a packet's worth is written
pub record Appended (shape : Shape) (ws us : List ℕ) (head q c n x s q' c' n' : ℕ) : Type 0 where
  pub fewer : c + s < shape.room → (us ≡ ws) × ((n' ≡ n + x / 2 ^ (8 * c)) × ((c' ≡ c + s) × (q' ≡ q)))
  pub enough : shape.room ≤ c + s
      → Put shape ws q head (n + x / 2 ^ (8 * c)) us
      × ((n' ≡ x * 2 ^ (8 * (shape.room - c)) % 2 ^ (8 * shape.room)) × ((c' + shape.room ≡ c + s) × (q' ≡ q + 1)))

-- e packets are written, and the words behind them are as they were
pub record Poured (shape : Shape) (w bytes : List ℕ) (head e : ℕ) (us : List ℕ) : Type 0 where
  pub long : length us ≡ length w
  pub done : (k : ℕ) → k < shape.words * e → get_or us k 0 ≡ flow_word shape head bytes k
  pub rest : (k : ℕ) → shape.words * e ≤ k → get_or us k 0 ≡ get_or w k 0
