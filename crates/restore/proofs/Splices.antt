-- A delta's edits spliced into its restored base, in any order, come to what restoring the delta gives. Assumes nothing.
use Rattle.std.specs.Prelude.{Some}
use mathlib.Core.Path.{◌≡◌, refl, sym, ap, ◌∙◌}
use mathlib.Core.List.{List, [], ◌∷◌}
use Prim.Native.Nat.{ℕ, suc, ◌+◌, ◌-◌, ◌≤◌, ◌<◌}
use native.Mathlib.Omega.{arith}
use lib.ListN.{length, replicate}
use Rattle.refusal.specs.Answer.{gives}
use Rattle.ump.specs.Word.{Below}
use Rattle.ump.specs.Packet.{sysex8, group_at, id_at, joined}
use Rattle.ump.specs.Packing.{words_for, pack}
use Rattle.ump.specs.Limits.{most_words}
use Rattle.ump.specs.Check.{payload_of}
use Rattle.ump.specs.Edits.{Edit, Patch, Apart, all_bytes, replaced}
use Rattle.ump.specs.Origin.{dump_byte, is_from, how_many}
use Rattle.ump.specs.Holds.{Fewest}
use Rattle.ump.specs.Worker.{Calls, Fits, start}
use Rattle.ump.specs.Demand.{Demand3}
use Rattle.ump.proofs.Checks.{valid_passes}
use Rattle.ump.proofs.Message.{payload_of_pack, group_of_pack, id_of_pack, pack_valid}
use Rattle.ump.proofs.Behind.{behind_none}
use Rattle.ump.proofs.Origins as ump
use Rattle.ump.proofs.Demand.{same_message}
use Rattle.store.specs.Store.{records_of, at_start, Dump, delta, dumps_of, held}
use Rattle.store.proofs.Checks.{sound_good}
use Rattle.store.proofs.Forms.{All, Formed, all_formed, OfBytes, bytes_at, store_bytes}
use Rattle.chain.specs.Restore.{Payload, exceeds, restored, unlimited, laid_out}
use Rattle.chain.specs.Chained.{Restorer, Describer, PromisedChain}
use Rattle.chain.specs.Audit.{Accounted, Alike, AuditedDump}
use Rattle.chain.proofs.Walks.{held_all}
use Rattle.chain.proofs.Making.{rebuilt_from, OfBase, Fitting, made_delta, fitting, apart}
use Rattle.chain.proofs.Needs.{given_fits}
use Rattle.restore.proofs.Groups.{restored_good}
use Rattle.restore.proofs.Chains.{Accepted, accepted, base_begun}
use Rattle.restore.proofs.Traces.{length_laid, laid_front, traced}

-- ---- a restore that is accepted

-- the words are the fewest-packet form of its payload
laid_fewest : (lent : ℕ) (p : Payload) → Fitting p → words_for sysex8 (length p.bytes) ≤ lent → lent ≤ most_words
    → Fewest sysex8 p.group (p.id ∷ []) p.bytes lent (laid_out lent p) (words_for sysex8 (length p.bytes))
unfolding laid_out
laid_fewest lent p fit room h =
    let id : List ℕ = p.id ∷ [] in
    let small : Below 256 id = (fit.id, tt) in
    let rest : List ℕ = replicate (lent - length (pack sysex8 p.group id p.bytes)) 0 in
    record {
      length_is = refl;
      packed = laid_front lent p room;
      holds = record {
        valid = pack_valid sysex8 p.group id p.bytes fit.group refl small fit.bytes rest (rw (length_laid lent p room) h);
        group_is = group_of_pack sysex8 p.group id p.bytes fit.group refl small fit.bytes rest;
        id_is = id_of_pack sysex8 p.group id p.bytes fit.group refl small fit.bytes rest;
        carries = payload_of_pack sysex8 p.group id p.bytes fit.group refl small fit.bytes rest;
        buffer = length_laid lent p room;
      };
    }

module _ {store : List ℕ} {n : ℕ} {words : List ℕ} {len : ℕ} {left : List ℕ} (a : Accepted store n words len left)
    (b : Below 256 store) where
  abbrev dumps : List Dump
  dumps = dumps_of store

  abbrev count : ℕ
  count = suc (length dumps)

  formed : All Formed dumps
  formed = all_formed at_start (records_of store) (sound_good store a.is_sound).formed

  fit : Fitting a.payload
  fit = fitting (exceeds (length words)) dumps formed (store_bytes store b) count n a.is

  room : words_for sysex8 (length a.payload.bytes) ≤ length words
  room = (restored_good (length words) dumps formed count n a.payload a.is).room

  is_free : restored unlimited dumps count n ≡ gives a.payload
  is_free = (given_fits (exceeds (length words)) dumps count n a.is).0

  pub accepted_fewest : Fewest sysex8 a.payload.group (a.payload.id ∷ []) a.payload.bytes (length words) left len
  accepted_fewest = rw (← a.length_is, ← a.left_is) (laid_fewest (length words) a.payload fit room a.lent)

  no_edits : replaced (payload_of sysex8 left len) [] ≡ a.payload.bytes
  unfolding replaced joined
  no_edits = accepted_fewest.holds.carries

  -- each byte has exactly one octet: the message is one with no edits
  accepted_once : (i : ℕ) → i < length a.payload.bytes → how_many sysex8 (length a.payload.bytes) [] len (is_from (dump_byte i)) ≡ 1
  accepted_once i h =
      let f : Fewest sysex8 (group_at sysex8 left 0) (id_at sysex8 left 0) (replaced (payload_of sysex8 left len) []) (length left) left len =
      rw (accepted_fewest.holds.group_is, accepted_fewest.holds.id_is, no_edits, accepted_fewest.holds.buffer) accepted_fewest
      in
      let apart : Apart [] (length (payload_of sysex8 left len)) =
      record { after = λ k l. absurd (omega arith); forward = λ k l. absurd (omega arith); inside = omega arith }
      in
      let same : payload_of sysex8 left len ≡ a.payload.bytes = accepted_fewest.holds.carries in
      let t = ump.traced sysex8 left len [] len left len f apart (behind_none left len) in
      rw same at (t.once (dump_byte i) (rw same h, λ k l. absurd (omega arith)))

  -- each octet is what its origin says
  pub accepted_traced : Accounted store n words len left
  accepted_traced =
      record {
        payload = a.payload;
        is = is_free;
        lent = accepted_fewest.holds.buffer;
        needed = sym a.length_is;
        origins = rw (← a.left_is) (traced dumps count n (length words) a.payload formed fit room is_free);
        once = accepted_once;
      }

-- ---- a delta on its base, both restored

module _ {store : List ℕ} {n number base : ℕ} {patches : List Patch} (is_held_lem : held (dumps_of store) n ≡ Some (delta number base patches))
    {words left : List ℕ} {len : ℕ} (below : Accepted store base words len left)
    {words-other left_other : List ℕ} {size : ℕ} (above : Accepted store n words-other size left_other) (b : Below 256 store) where
  abbrev old : Payload
  old = below.payload

  made_of : OfBase unlimited (restored unlimited (dumps_of store) (length (dumps_of store)) base) patches above.payload
  made_of = made_delta unlimited (dumps_of store) (length (dumps_of store)) n is_held_lem (is_free above b)

  same_base : made_of.old ≡ old
  same_base =
      let e : gives made_of.old ≡ gives old =
      sym made_of.is_base ∙ base_begun unlimited (dumps_of store) n is_held_lem ∙ is_free below b
      in
      cc

  -- the delta's payload is the base's with all ranges replaced
  rebuilt_is : rebuilt_from patches old ≡ above.payload
  rebuilt_is = rw same_base at made_of.is

  pub base_apart : Apart patches (length old.bytes)
  base_apart =
      apart (length old.bytes) patches (held_all Formed (dumps_of store) n (formed below b) is_held_lem) (rw same_base at made_of.good)

  -- base and edits are such as demand 3 asks for
  pub base_fits : 0 < length patches → words_for sysex8 (length (payload_of sysex8 left len) + all_bytes patches) ≤ length words
      → Fits sysex8 left len patches
  base_fits some-edit enough =
      let f = accepted_fewest below b in
      record {
        passes = valid_passes sysex8 left len f.holds.valid;
        apart = rw f.holds.carries base_apart;
        bytes = λ i h. bytes_at patches i (held_all OfBytes (dumps_of store) n (store_bytes store b) is_held_lem);
        room = rw f.holds.buffer enough;
        some = some-edit;
      }

  pub alike : (calls : Calls (List ℕ) Edit) → Fits sysex8 left len patches
      → Demand3 sysex8 (λ words. words) (λ edit. edit) calls patches (start left len patches)
      → Alike calls patches left len left_other size
  alike calls fits demand =
      let f = accepted_fewest below b in
      let g = accepted_fewest above b in
      record {
        fits = fits;
        demand3 = demand;
        same = λ order each w.
            same_message
            (f.holds.group_is ∙ ap (λ (p : Payload). p.group) rebuilt_is)
            (f.holds.id_is ∙ ap (λ (p : Payload). p.id ∷ []) rebuilt_is)
            (ap (λ (x : List ℕ). replaced x patches) f.holds.carries ∙ ap (λ (p : Payload). p.bytes) rebuilt_is)
            (demand.result order each w) g;
      }

-- ---- the theorem

-- what an auditor asks, where the calls that edit a message satisfy demand 3
pub audited : {Restores : Restorer} {Describes : Describer} → PromisedChain Restores Describes → {calls : Calls (List ℕ) Edit}
    → ((words : List ℕ) (len : ℕ) (patches : List Patch) → Fits sysex8 words len patches
    → Demand3 sysex8 (λ words. words) (λ edit. edit) calls patches (start words len patches))
    → AuditedDump Restores calls
audited promised {calls} demand3 =
    record {
      traced = λ {store = store} {n} {words} call b. accepted_traced (accepted store n words (promised.restores call)) b;
      in_any_order = λ {store = store} {n} {number} {base} {patches} is_held_lem {words} call {words-other} call-other b some-edit enough.
          let below = accepted store base words (promised.restores call) in
          let above = accepted store n words-other (promised.restores call-other) in
          let fits = base_fits is_held_lem below above b some-edit enough in
          alike is_held_lem below above b calls fits (demand3 _ _ _ fits);
    }
