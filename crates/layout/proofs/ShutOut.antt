-- Wrong answers that the promises shut out, each on a concrete input. Assumes nothing.
use mathlib.Core.Path.{◌≡◌, ap, ◌∙◌}
use Prim.Native.Nat.{ℕ}
use mathlib.Core.Bool.{not}
use lib.Dec.{T, eqb}
use denote.RattleType.{RattleType}
use denote.Param.Laws.{Laws}
use mir.Syntax.{Dict}
use Rattle.layout.specs.declared.Format.{Ghosts}
use Rattle.refusal.specs.Tight.{Shuts}
use Rattle.refusal.proofs.Tight.{differ}
use Rattle.ump.specs.Packet.{Shape, sysex8, sysex7, size_of}
use Rattle.ump.specs.Packing.{status_for, packets_for}
use Rattle.layout.proofs.type_of.Reads as type-of
use Rattle.layout.proofs.group_of.Reads as group-of
use Rattle.layout.proofs.status_of.Reads as status-of
use Rattle.layout.proofs.count_of.Reads as count_of
use Rattle.layout.proofs.id_of.Reads as id-of
use Rattle.layout.proofs.word_of.Reads as word_of
use Rattle.layout.proofs.first_word.Reads as first_word
use Rattle.layout.proofs.octet_of.Reads as octet-of
use Rattle.layout.proofs.with_octet.Reads as with-octet
use Rattle.layout.proofs.with_group.Reads as with-group
use Rattle.layout.proofs.with_id.Reads as with-id
use Rattle.layout.proofs.status_for.Reads as status-for
use Rattle.layout.proofs.payload_size.Reads as payload-size
use Rattle.layout.proofs.packets_for.Reads as packets-for

wrong : {x y : ℕ} → T (not (eqb x y)) → x ≡ y → ⊥
wrong t e = differ (λ v. v) t e

-- type 5, group 10, status 3, count 14, stream id 0x81
abbrev sample : ℕ
sample = 0x5A3E81FF

-- A field: another one (type, count, status, next), counted from the least significant end (low), too wide (octet) or too narrow
-- (three, septet), the payload size for the count (size). A word: in the other order (backward), an octet's top bit lost (cut). A first
-- word: type and group changed over (other), a group that is too big carried into the type (past). An octet: counted from the least
-- significant end (low), none past the third (past); set, with the other octets lost (other). A group put over the type (type), or one
-- that is too big carried into it (past). An id in octet 3 (next), or octet 3 lost (other). Of a packet that stands alone, start (alone),
-- of one past the last, end (past). The bytes of a count: as many in SysEx8 (count), one fewer in SysEx7 (less), some for a count out of
-- range (past). Packets: rounded down (down), one more behind full ones (more), none for no bytes (none).
record ShutOut : Type 0 where
  type_of_low : Shuts type-of.Post (sample, tt) 15
  type_of_octet : Shuts type-of.Post (sample, tt) 0x5A
  group_of_type : Shuts group-of.Post (sample, tt) 5
  group_of_three : Shuts group-of.Post (sample, tt) 2
  status_of_count : Shuts status-of.Post (sample, tt) 14
  status_of_octet : Shuts status-of.Post (sample, tt) 0x3E
  count_of_status : Shuts count_of.Post (sample, tt) 3
  count_of_size : Shuts count_of.Post (sample, tt) 13
  id_of_next : Shuts id-of.Post (sample, tt) 0xFF
  id_of_septet : Shuts id-of.Post (sample, tt) 0x01
  word_of_backward : Shuts word_of.Post (0x5A, (0x3E, (0x81, (0xFF, tt)))) 0xFF813E5A
  word_of_cut : Shuts word_of.Post (0x5A, (0x3E, (0x81, (0xFF, tt)))) 0x5A3E817F
  first_word_other : Shuts first_word.Post (5, (10, (3, (14, (0x81, tt))))) 0xA53E8100
  first_word_past : Shuts first_word.Post (5, (26, (3, (14, (0x81, tt))))) 0x6A3E8100
  octet_of_low : Shuts octet-of.Post (sample, (0, tt)) 0xFF
  octet_of_past : Shuts octet-of.Post (sample, (7, tt)) 0
  with_octet_low : Shuts with-octet.Post (sample, (0, (0, tt))) 0x5A3E8100
  with_octet_other : Shuts with-octet.Post (sample, (6, (7, tt))) 0x00000700
  with_group_type : Shuts with-group.Post (sample, (3, tt)) 0x3A3E81FF
  with_group_past : Shuts with-group.Post (sample, (19, tt)) 0x6D3E81FF
  with_id_next : Shuts with-id.Post (sample, (2, tt)) 0x5A3E8102
  with_id_other : Shuts with-id.Post (sample, (2, tt)) 0x5A3E0200
  status_for_alone : Shuts status-for.Post (1, (0, tt)) 1
  status_for_past : Shuts status-for.Post (0, (0xFFFFFFFFFFFFFFFF, tt)) 3

shut_out : ShutOut
unfolding status_for
shut_out = record {
  type_of_low = λ κs s p. wrong tt p;
  type_of_octet = λ κs s p. wrong tt p;
  group_of_type = λ κs s p. wrong tt p;
  group_of_three = λ κs s p. wrong tt p;
  status_of_count = λ κs s p. wrong tt p;
  status_of_octet = λ κs s p. wrong tt p;
  count_of_status = λ κs s p. wrong tt p;
  count_of_size = λ κs s p. wrong tt p;
  id_of_next = λ κs s p. wrong tt p;
  id_of_septet = λ κs s p. wrong tt p;
  word_of_backward = λ κs s p. wrong tt p;
  word_of_cut = λ κs s p. wrong tt p;
  first_word_other = λ κs s p. wrong tt p;
  first_word_past = λ κs s p. wrong tt p;
  octet_of_low = λ κs s p. wrong tt p;
  octet_of_past = λ κs s p. wrong tt p;
  with_octet_low = λ κs s p. wrong tt p;
  with_octet_other = λ κs s p. wrong tt p;
  with_group_type = λ κs s p. wrong tt p;
  with_group_past = λ κs s p. wrong tt p;
  with_id_next = λ κs s p. wrong tt p;
  with_id_other = λ κs s p. wrong tt p;
  status_for_alone = λ κs s p. wrong tt p;
  status_for_past = λ κs s p. wrong tt p;
}

of_shape : (f : Shape → ℕ → ℕ) (n : ℕ) {shape known : Shape} {x : ℕ} → shape ≡ known → x ≡ f shape n → x ≡ f known n
of_shape f n e p = p ∙ ap (λ (s : Shape). f s n) e

-- ---- of each type of packets: a count counted wrong (count, less) or out of range taken (past), packets rounded down (down), one too many
-- (more), none for no bytes (none)

module _ (T : RattleType) (L : Laws T) (format : Ghosts T.Denot) (D : Dict) where
  abbrev Size : ℕ → ℕ → Type 0
  Size count wrong = Shuts (payload-size.Post T L format D) (count, tt) wrong

  abbrev Packets : ℕ → ℕ → Type 0
  Packets size wrong = Shuts (packets-for.Post T L format D) (size, tt) wrong

  record ShutOut8 : Type 0 where
    size_count : Size 14 14
    size_past : Size 15 14
    packets_down : Packets 14 1
    packets_more : Packets 13 2
    packets_none : Packets 0 0

  record ShutOut7 : Type 0 where
    size_less : Size 6 5
    size_past : Size 7 6
    packets_down : Packets 7 1
    packets_more : Packets 6 2
    packets_none : Packets 0 0

  shut_out8 : format.shape ≡ sysex8 → ShutOut8
  unfolding size_of packets_for
  shut_out8 e = record {
    size_count = λ κs s p. wrong tt (of_shape size_of 14 e p);
    size_past = λ κs s p. wrong tt (of_shape size_of 15 e p);
    packets_down = λ κs s p. wrong tt (of_shape packets_for 14 e p);
    packets_more = λ κs s p. wrong tt (of_shape packets_for 13 e p);
    packets_none = λ κs s p. wrong tt (of_shape packets_for 0 e p);
  }

  shut_out7 : format.shape ≡ sysex7 → ShutOut7
  unfolding size_of packets_for
  shut_out7 e = record {
    size_less = λ κs s p. wrong tt (of_shape size_of 6 e p);
    size_past = λ κs s p. wrong tt (of_shape size_of 7 e p);
    packets_down = λ κs s p. wrong tt (of_shape packets_for 7 e p);
    packets_more = λ κs s p. wrong tt (of_shape packets_for 6 e p);
    packets_none = λ κs s p. wrong tt (of_shape packets_for 0 e p);
  }
