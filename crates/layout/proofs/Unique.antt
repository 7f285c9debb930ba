-- Any two outcomes that a promise allows are equal. Assumes nothing.
use mathlib.Core.Path.{sym, ◌∙◌}
use denote.RattleType.{RattleType}
use denote.Param.Laws.{Laws}
use mir.Syntax.{Dict}
use Rattle.layout.specs.declared.Format.{Ghosts}
use Rattle.refusal.specs.Tight.{FixesResult}
use Rattle.layout.proofs.payload_size.Kinds as payload-size-kinds
use Rattle.layout.proofs.payload_size.Reads as payload-size
use Rattle.layout.proofs.packets_for.Kinds as packets-for-kinds
use Rattle.layout.proofs.packets_for.Reads as packets-for
use Rattle.layout.proofs.type_of.Kinds as type-of-kinds
use Rattle.layout.proofs.type_of.Reads as type-of
use Rattle.layout.proofs.group_of.Kinds as group-of-kinds
use Rattle.layout.proofs.group_of.Reads as group-of
use Rattle.layout.proofs.status_of.Kinds as status-of-kinds
use Rattle.layout.proofs.status_of.Reads as status-of
use Rattle.layout.proofs.count_of.Kinds as count-of-kinds
use Rattle.layout.proofs.count_of.Reads as count_of
use Rattle.layout.proofs.id_of.Kinds as id-of-kinds
use Rattle.layout.proofs.id_of.Reads as id-of
use Rattle.layout.proofs.word_of.Kinds as word-of-kinds
use Rattle.layout.proofs.word_of.Reads as word_of
use Rattle.layout.proofs.first_word.Kinds as first-word-kinds
use Rattle.layout.proofs.first_word.Reads as first_word
use Rattle.layout.proofs.octet_of.Kinds as octet-of-kinds
use Rattle.layout.proofs.octet_of.Reads as octet-of
use Rattle.layout.proofs.with_octet.Kinds as with-octet-kinds
use Rattle.layout.proofs.with_octet.Reads as with-octet
use Rattle.layout.proofs.with_group.Kinds as with-group-kinds
use Rattle.layout.proofs.with_group.Reads as with-group
use Rattle.layout.proofs.with_id.Kinds as with-id-kinds
use Rattle.layout.proofs.with_id.Reads as with-id
use Rattle.layout.proofs.status_for.Kinds as status-for-kinds
use Rattle.layout.proofs.status_for.Reads as status-for

type_of_unique : FixesResult 0 type-of-kinds.ps type-of-kinds.r type-of.Post
type_of_unique κs a x y s t p q = p ∙ sym q

group_of_unique : FixesResult 0 group-of-kinds.ps group-of-kinds.r group-of.Post
group_of_unique κs a x y s t p q = p ∙ sym q

status_of_unique : FixesResult 0 status-of-kinds.ps status-of-kinds.r status-of.Post
status_of_unique κs a x y s t p q = p ∙ sym q

count_of_unique : FixesResult 0 count-of-kinds.ps count-of-kinds.r count_of.Post
count_of_unique κs a x y s t p q = p ∙ sym q

id_of_unique : FixesResult 0 id-of-kinds.ps id-of-kinds.r id-of.Post
id_of_unique κs a x y s t p q = p ∙ sym q

word_of_unique : FixesResult 0 word-of-kinds.ps word-of-kinds.r word_of.Post
word_of_unique κs a x y s t p q = p ∙ sym q

first_word_unique : FixesResult 0 first-word-kinds.ps first-word-kinds.r first_word.Post
first_word_unique κs a x y s t p q = p ∙ sym q

octet_of_unique : FixesResult 0 octet-of-kinds.ps octet-of-kinds.r octet-of.Post
octet_of_unique κs a x y s t p q = p ∙ sym q

with_octet_unique : FixesResult 0 with-octet-kinds.ps with-octet-kinds.r with-octet.Post
with_octet_unique κs a x y s t p q = p ∙ sym q

with_group_unique : FixesResult 0 with-group-kinds.ps with-group-kinds.r with-group.Post
with_group_unique κs a x y s t p q = p ∙ sym q

with_id_unique : FixesResult 0 with-id-kinds.ps with-id-kinds.r with-id.Post
with_id_unique κs a x y s t p q = p ∙ sym q

status_for_unique : FixesResult 0 status-for-kinds.ps status-for-kinds.r status-for.Post
status_for_unique κs a x y s t p q = p ∙ sym q

-- of each type of packets
module _ (T : RattleType) (L : Laws T) (format : Ghosts T.Denot) (D : Dict) where
  payload_size_unique : FixesResult 1 (payload-size-kinds.ps T L) (payload-size-kinds.r T L) (payload-size.Post T L format D)
  payload_size_unique κs a x y s t p q = p ∙ sym q

  packets_for_unique : FixesResult 1 (packets-for-kinds.ps T L) (packets-for-kinds.r T L) (packets-for.Post T L format D)
  packets_for_unique κs a x y s t p q = p ∙ sym q
