-- Whoever packs by the layout rules gets a yes, every yes is such a packing, and two packings of one payload get the same answer; of any call that
-- promises the definition. Assumes nothing.
use mathlib.Core.Path.{◌≡◌, refl, sym, ap, ◌∙◌, subst}
use mathlib.Core.List.{List, ◌++◌}
use Prim.Native.Nat.{ℕ, ◌/◌, ◌^◌, ◌≤◌}
use native.Mathlib.Nat.{mul-div_right}
use native.Mathlib.Omega.{arith}
use lib.ListN.{length, drop, take-append-drop}
use Rattle.refusal.specs.Answer.{Verdict, gives, refused, pass}
use Rattle.refusal.proofs.Laws.{never_both}
use Rattle.ump.specs.Word.{Below}
use Rattle.ump.specs.Packet.{Shape, payload_at, filler_at, joined, payload}
use Rattle.ump.specs.Packing.{packs_filled}
use Rattle.ump.specs.Check.{check}
use Rattle.ump.proofs.Sizes.{words_pos}
use Rattle.ump.proofs.Checks.{valid_passes}
use Rattle.ump.proofs.Message.{payload_of_packs, group_of_packs, id_of_packs, packs_valid}
use Rattle.ump.proofs.ValidPacks.{valid_laid_out, valid_packs}
use Rattle.carries.specs.Carries.{carries}
use Rattle.carries.specs.Senders.{Carrier, Carries, Packing, Reason, not_valid, no_group, other, SameSaid, both_yes, both_no, Judged, PromisedCarrier}
use Rattle.carries.proofs.Carrying.{yes_only, yes_if}
use Rattle.carries.proofs.Reasons.{reason}

module _ (s : Shape) {words : List ℕ} {len : ℕ} {bytes : List ℕ} {group : ℕ} {id : List ℕ} where
  -- a packing is a valid message with its payload, group and stream id
  pub packing_carries : Packing s words len bytes group id → Carries s words len bytes group id
  packing_carries k =
      let m : List ℕ = packs_filled s group id k.packets k.piece k.filler ++ k.behind in
      let e = k.words_are in
      let short : length m ≤ 16384 = rw e at k.short_enough in
      rw (e, k.ends, ← k.joins)
      (record {
        valid = packs_valid s group id k.packets k.piece k.filler k.laid_out k.behind short;
        payload_is = payload_of_packs s group id k.packets k.piece k.filler k.laid_out k.behind;
        group_is = group_of_packs s group id k.packets k.piece k.filler k.laid_out k.behind;
        id_is = id_of_packs s group id k.packets k.piece k.filler k.laid_out k.behind;
      })

  -- and the other way round, where a payload byte is a whole octet
  pub carries_packing : s.limit ≡ 256 → Below (2 ^ 32) words → Carries s words len bytes group id → Packing s words len bytes group id
  unfolding payload
  carries_packing wide b c =
      let v = c.valid in
      let q : len / s.words ≡ v.packets = rw v.whole (mul-div_right v.packets (words_pos s)) in
      record {
        packets = v.packets;
        piece = payload_at s words;
        filler = filler_at s words;
        behind = drop len words;
        laid_out = rw (c.group_is, c.id_is) at (valid_laid_out s words len v);
        joins = ap (λ (n : ℕ). joined (payload_at s words) n) (sym q) ∙ c.payload_is;
        words_are = sym (take-append-drop len words) ∙ ap (λ (l : List ℕ). l ++ drop len words) (rw (c.group_is, c.id_is) at (valid_packs s words len v wide b));
        ends = v.whole;
        short_enough = v.short_enough;
      }

-- ---- two packings of one payload

module _ (s : Shape) {words others : List ℕ} {len end : ℕ} {carried : List ℕ} {sent : ℕ} {stream : List ℕ} (bytes : List ℕ) (group : ℕ) (id : List ℕ) where
  -- a yes to one is a yes to the other
  like_yes : Carries s words len carried sent stream → Carries s others end carried sent stream
      → carries s words len bytes group id ≡ pass → carries s others end bytes group id ≡ pass
  like_yes c d e =
      let y = yes_only s words len bytes group id e in
      yes_if s others end bytes group id
      (record {
        valid = d.valid;
        payload_is = d.payload_is ∙ sym c.payload_is ∙ y.payload_is;
        group_is = d.group_is ∙ sym c.group_is ∙ y.group_is;
        id_is = d.id_is ∙ sym c.id_is ∙ y.id_is;
      })

-- a no of a valid message is by its group or because something else is carried, whichever the packing
module _ (s : Shape) {words others : List ℕ} {len end : ℕ} {bytes : List ℕ} {group : ℕ} {id : List ℕ} where
  like_no : check s words len ≡ pass → check s others end ≡ pass → {m n p q : ℕ} → Reason s words len bytes group id m p → Reason s others end bytes group id n q → m ≡ n
  like_no ok ko (not_valid e) r = never_both (sym ok ∙ e)
  like_no ok ko (no_group c h) (not_valid e) = never_both (sym ko ∙ e)
  like_no ok ko (no_group c h) (no_group d k) = refl
  like_no ok ko (no_group c h) (other d k o) = absurd (omega arith)
  like_no ok ko (other c h o) (not_valid e) = never_both (sym ko ∙ e)
  like_no ok ko (other c h o) (no_group d k) = absurd (omega arith)
  like_no ok ko (other c h o) (other d k p) = refl

same_no : {m n p q : ℕ} → m ≡ n → SameSaid (refused m p) (refused n q)
same_no {m} {n} {p} {q} e = subst (λ (k : ℕ). SameSaid (refused m p) (refused k q)) e both_no

same_said : (s : Shape) {words others : List ℕ} {len end : ℕ} {carried : List ℕ} {sent : ℕ} {stream : List ℕ} (bytes : List ℕ) (group : ℕ) (id : List ℕ)
    → Carries s words len carried sent stream → Carries s others end carried sent stream
    → (a b : Verdict) → carries s words len bytes group id ≡ a → carries s others end bytes group id ≡ b → SameSaid a b
same_said s bytes group id c d (gives u) (gives v) e f = both_yes
same_said s bytes group id c d (gives u) (refused n q) e f = never_both (sym (like_yes s bytes group id c d e) ∙ f)
same_said s bytes group id c d (refused m p) (gives u) e f = never_both (sym (like_yes s bytes group id d c f) ∙ e)
same_said s {words} {others} {len} {end} bytes group id c d (refused m p) (refused n q) e f =
    same_no
    (like_no s (valid_passes s words len c.valid) (valid_passes s others end d.valid)
    (reason s words len bytes group id e) (reason s others end bytes group id f))

-- ---- of any call

pub judged : (s : Shape) {Asks : Carrier} → s.limit ≡ 256 → PromisedCarrier s Asks → Judged s Asks
judged s wide promised =
    record {
      answers = λ words len bytes group id h. record { answer = carries s words len bytes group id; call = promised.can_ask words len bytes group id h };
      yes = λ {words = words} {len} {bytes} {group} {id} c. yes_only s words len bytes group id (sym (promised.asks c));
      yes_if = λ {words = words} {len} {bytes} {group} {id} c k. promised.asks c ∙ yes_if s words len bytes group id k;
      packed = λ {words = words} {len} {bytes} {group} {id} c k. promised.asks c ∙ yes_if s words len bytes group id (packing_carries s k);
      packing = λ {words = words} {len} {bytes} {group} {id} c b. carries_packing s wide b (yes_only s words len bytes group id (sym (promised.asks c)));
      reason = λ {words = words} {len} {bytes} {group} {id} c. reason s words len bytes group id (sym (promised.asks c));
      same = λ {bytes = bytes} {group} {id} {a} {b} k l c d.
          same_said s bytes group id (packing_carries s k) (packing_carries s l) a b (sym (promised.asks c)) (sym (promised.asks d));
    }
