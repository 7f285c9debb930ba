-- `carries::packet_differs`: what is passed does not differ, so that the answer is that of what comes behind it. Assumes nothing.
use borrow.Author.Rules.{rules}
use mathlib.Core.Path.{◌≡◌, refl, sym, ap, ◌∙◌}
use mathlib.Core.Bool.{Bool, true, false, ◌||◌}
use mathlib.Core.List.{List, [], ◌∷◌}
use Prim.Native.Nat.{ℕ, ◌+◌, ◌*◌, ◌≤◌, ◌<◌}
use native.Mathlib.Nat.{add-zero}
use native.Mathlib.Omega.{arith}
use lib.ListN.{length, get_or, drop}
use Rattle.ump.specs.Word.{octet, octets}
use Rattle.ump.specs.Packet.{sysex8, count_at, payload_at}
use Rattle.ump.proofs.Sizes.{size_small}
use Rattle.ump.proofs.Bytes.{length-payload_at, get_d_payload_at}
use Rattle.carries.specs.Carries.{unlike}
use Rattle.carries.proofs.Likeness.{like_end, like_differ, like_on, word-step}
use Rattle.carries.proofs.packet_differs.Statement.{statement}
use Rattle.carries.proofs.packet_differs.Tie as tie

abbrev start : tie.After-shared_slice_known-2-1 → tie.Start
start c = c.before.before

abbrev piece : tie.After-shared_slice_known-2-1 → List ℕ
piece c = let a = (start c).args in payload_at sysex8 a.words.now a.packet

-- what the bytes from one on answer
abbrev from : tie.After-shared_slice_known-2-1 → ℕ → Bool
from c byte = let a = (start c).args in unlike (drop byte (piece c)) (drop (a.at + byte) a.payload.now)

-- what a word answers, the byte before it
abbrev one : tie.After-shared_slice_known-2-1 → ℕ → ℕ → Bool
one c row byte = let a = (start c).args in unlike (octets (get_or a.words.now (4 * a.packet + row) 0 ∷ [])) (drop (a.at + byte) a.payload.now)

abbrev all : tie.After-shared_slice_known-2-1 → Bool
all c = let a = (start c).args in unlike (piece c) (drop a.at a.payload.now)

long : (c : tie.After-shared_slice_known-2-1) → length (piece c) ≡ (start c).args.size
long c = let d = start c in length-payload_at sysex8 d.args.words.now d.args.packet d.requires.0.there ∙ sym d.requires.0.size_is

step : (c : tie.After-shared_slice_known-2-1) (byte row : ℕ) → byte + 3 ≡ 4 * row → byte + 4 ≤ (start c).args.size → from c byte ≡ one c row byte || from c (byte + 4)
step c byte row e h =
    let d = start c in
    word-step d.args.words.now d.args.packet d.requires.0.there d.args.payload.now d.args.at byte row e (omega (arith, d.requires.0.size_is))

-- the first byte
some : (c : tie.Else-size-eq0) → 0 < length (piece c.before)
some c = omega (arith, long c.before, c.if-size-eq0.false)

read : (c : tie.After-octet_of) → c.octet_of.result ≡ get_or (piece c.before.before.before) 0 0
read c =
    let d = start c.before.before.before in
    c.octet_of.ensures
    ∙ ap (λ (k : ℕ). octet (get_or d.args.words.now k 0) 3) (sym (add-zero (4 * d.args.packet)))
    ∙ sym (get_d_payload_at sysex8 d.args.words.now d.args.packet d.requires.0.there 0 (omega (arith, d.requires.0.size_is, c.if-size-eq0.false)))

-- the way back from each test that goes on, and what is left then: the bytes from 1 on, from 5 on, from 9 on
abbrev begun : tie.Else-octet_of-payload → tie.After-shared_slice_known-2-1
begun c = c.before.before.before.before.before

abbrev first-passed : tie.Else-word_differs → tie.Else-octet_of-payload
first-passed c = c.before.before.before.before

abbrev second-passed : tie.Else-word_differs-2 → tie.Else-word_differs
second-passed c = c.before.before.before.before

from-1 : (c : tie.Else-octet_of-payload) → all (begun c) ≡ from (begun c) 1
from-1 c =
    let d = start c.before.before.before.before.before in
    like_on (piece c.before.before.before.before.before) d.args.payload.now 0 d.args.at (some c.before.before.before.before) (omega (arith, d.requires.1, c.if-size-eq0.false)) (sym (read c.before.before) ∙ c.if-octet_of-payload.false)

-- a word that does not differ, and one that does
passed : {b x y : Bool} → b ≡ x || y → x ≡ false → b ≡ y
passed e f = e ∙ rw f

stopped : {b x : Bool} (y : Bool) → b ≡ x || y → x ≡ true → true ≡ b
stopped y e f = sym (e ∙ rw f)

from-5 : (c : tie.Else-word_differs) → let k = begun (first-passed c) in all k ≡ from k 5
from-5 c =
    let e = first-passed c in
    from-1 e ∙ passed (step (begun e) 1 1 refl c.if-size-lt5.false) (sym c.word_differs.ensures ∙ c.if-word_differs.false)

from-9 : (c : tie.Else-word_differs-2) → let k = begun (first-passed (second-passed c)) in all k ≡ from k 9
from-9 c =
    let e = second-passed c in
    from-5 e ∙ passed (step (begun (first-passed e)) 5 2 refl c.if-size-lt9.false) (sym c.word_differs-2.ensures ∙ c.if-word_differs-2.false)

or_false : (b : Bool) → (b || false) ≡ b
or_false true = refl
or_false false = refl

returns : tie.Need-returns-then-size-eq0
returns c =
    let d = start c.before in
    sym (like_end (piece c.before) (drop d.args.at d.args.payload.now) 0 (omega (arith, long c.before, c.if-size-eq0.true)))

returns_2 : tie.Need-returns-then-octet_of-payload
returns_2 c =
    let d = start c.before.before.before.before.before in
    like_differ (piece c.before.before.before.before.before) d.args.payload.now 0 d.args.at (some c.before.before.before.before) (omega (arith, d.requires.1, c.if-size-eq0.false)) (λ q. c.if-octet_of-payload.true (read c.before.before ∙ q))

returns-3 : tie.Need-returns-then-size-lt5
returns-3 c = c.bytes_differ.ensures ∙ sym (from-1 c.before.before)

returns-4 : tie.Need-returns-then-word_differs
returns-4 c =
    let k = begun c.before.before.before.before in
    stopped (from k 5) (from-1 c.before.before.before.before ∙ step k 1 1 refl c.if-size-lt5.false) (sym c.word_differs.ensures ∙ c.if-word_differs.true)

returns-5 : tie.Need-returns-then-size-lt9
returns-5 c = c.bytes_differ-then-size-lt9.ensures ∙ sym (from-5 c.before.before)

returns-6 : tie.Need-returns-then-word_differs-2
returns-6 c =
    let k = begun (first-passed c.before.before.before.before) in
    stopped (from k 9) (from-5 c.before.before.before.before ∙ step k 5 2 refl c.if-size-lt9.false) (sym c.word_differs-2.ensures ∙ c.if-word_differs-2.true)

returns-7 : tie.Need-returns-then-size-lt13
returns-7 c = c.bytes_differ-then-size-lt13.ensures ∙ sym (from-9 c.before.before)

returns-8 : tie.Need-returns
returns-8 c =
    let k = begun (first-passed (second-passed c.before.before.before)) in
    let d = start k in
    let none : from k 13 ≡ false = like_end (piece k) _ 13 (omega (arith, long k, d.requires.0.size_is, size_small sysex8 (count_at sysex8 d.args.words.now d.args.packet))) in
    c.word_differs-3.ensures ∙ sym (from-9 c.before.before.before ∙ step k 9 3 refl c.if-size-lt13.false ∙ rw none (or_false (one k 3 9)))

pub packet_differs_spec : {M : Type 1} → statement M
packet_differs_spec =
    tie.close
    (tie.spec
    returns
    (λ c. search rules)
    (λ c. search rules)
    (λ c. search rules)
    (λ c κs. search rules)
    (λ c. search rules)
    returns_2
    (λ c κs. search rules)
    returns-3
    (λ c. search rules)
    (λ c. search rules)
    (λ c. search rules)
    (λ c. search rules)
    (λ c κs. search rules)
    returns-4
    (λ c κs. search rules)
    returns-5
    (λ c. search rules)
    (λ c. search rules)
    (λ c. search rules)
    (λ c. search rules)
    (λ c κs. search rules)
    returns-6
    (λ c κs. search rules)
    returns-7
    (λ c. search rules)
    (λ c. search rules)
    (λ c. search rules)
    (λ c. search rules)
    (λ c κs. search rules)
    returns-8)
