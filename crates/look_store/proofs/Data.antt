-- A byte of the data from a place of the store on, record by record. Assumes nothing.
use mathlib.Core.Path.{◌≡◌, sym, ap, ◌∙◌}
use mathlib.Core.Bool.{true}
use mathlib.Core.List.{List, ◌++◌}
use Prim.Native.Nat.{ℕ, ◌+◌, ◌-◌, ◌≤◌, ◌<◌}
use native.Mathlib.Omega.{arith}
use lib.ListN.{length, get_or, take, drop, length-drop, get_or-append}
use lib.Seq.{length-take-le, get_or-take, get_or-drop, get_or-append-add}
use Rattle.store.specs.Store.{is_data, data_in}
use Rattle.store.specs.Places.{record_at, next_at, records_from}
use Rattle.store.proofs.Parts.{data_step}

-- an element behind the first list
pub append_behind : (xs ys : List ℕ) (i : ℕ) → length xs ≤ i → get_or (xs ++ ys) i 0 ≡ get_or ys (i - length xs) 0
append_behind xs ys i h =
    let e : length xs + (i - length xs) ≡ i = omega arith in
    ap (λ (n : ℕ). get_or (xs ++ ys) n 0) (sym e) ∙ get_or-append-add xs ys (i - length xs) 0

module _ (store : List ℕ) (place : ℕ) (d : is_data (get_or store place 0) ≡ true) (size : ℕ)
    (b : take size (drop (place + 1) store) ≡ (record_at store place).body) (k : place + 1 + size ≤ length store) (left : ℕ) where
  abbrev body : List ℕ
  body = (record_at store place).body

  abbrev rest : List ℕ
  rest = data_in (records_from store (next_at store place))

  body_long : length body ≡ size
  body_long = ap length (sym b) ∙ length-take-le size (drop (place + 1) store) (rw length-drop (omega arith))

  here : get_or (data_in (records_from store place)) left 0 ≡ get_or (body ++ rest) left 0
  here = ap (λ (l : List ℕ). get_or l left 0) (data_step store place d)

  pub data_here : left < size → get_or (data_in (records_from store place)) left 0 ≡ get_or store (place + 1 + left) 0
  data_here h =
      here
      ∙ get_or-append body rest 0 left (omega (arith, body_long))
      ∙ ap (λ (l : List ℕ). get_or l left 0) (sym b)
      ∙ get_or-take size (drop (place + 1) store) left 0 h
      ∙ get_or-drop (place + 1) store left 0

  pub data_later : size ≤ left → {next : ℕ} → next ≡ next_at store place
      → get_or (data_in (records_from store place)) left 0 ≡ get_or (data_in (records_from store next)) (left - size) 0
  data_later h q =
      here
      ∙ append_behind body rest left (omega (arith, body_long))
      ∙ ap (λ (n : ℕ). get_or rest (left - n) 0) body_long
      ∙ ap (λ (n : ℕ). get_or (data_in (records_from store n)) (left - size) 0) (sym q)
