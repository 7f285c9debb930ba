-- Any two outcomes that a promise allows are equal. Assumes nothing.
use mathlib.Core.Path.{sym, ◌∙◌}
use Rattle.refusal.specs.Tight.{FixesResult}
use Rattle.bit_ops.proofs.Laws.{bit_once}
use Rattle.bit_ops.proofs.bit.Kinds as bit-kinds
use Rattle.bit_ops.proofs.bit.Reads as bit
use Rattle.bit_ops.proofs.set_bit.Kinds as set-bit-kinds
use Rattle.bit_ops.proofs.set_bit.Reads as set-bit
use Rattle.bit_ops.proofs.crumb.Kinds as crumb-kinds
use Rattle.bit_ops.proofs.crumb.Reads as crumb
use Rattle.bit_ops.proofs.set_crumb.Kinds as set-crumb-kinds
use Rattle.bit_ops.proofs.set_crumb.Reads as set-crumb
use Rattle.bit_ops.proofs.nibble.Kinds as nibble-kinds
use Rattle.bit_ops.proofs.nibble.Reads as nibble
use Rattle.bit_ops.proofs.set_nibble.Kinds as set-nibble-kinds
use Rattle.bit_ops.proofs.set_nibble.Reads as set-nibble
use Rattle.bit_ops.proofs.septet.Kinds as septet-kinds
use Rattle.bit_ops.proofs.septet.Reads as septet
use Rattle.bit_ops.proofs.set_septet.Kinds as set-septet-kinds
use Rattle.bit_ops.proofs.set_septet.Reads as set-septet
use Rattle.bit_ops.proofs.octet.Kinds as octet-kinds
use Rattle.bit_ops.proofs.octet.Reads as octet
use Rattle.bit_ops.proofs.set_octet.Kinds as set-octet-kinds
use Rattle.bit_ops.proofs.set_octet.Reads as set-octet
use Rattle.bit_ops.proofs.word.Kinds as word-kinds
use Rattle.bit_ops.proofs.word.Reads as word
use Rattle.bit_ops.proofs.set_word.Kinds as set-word-kinds
use Rattle.bit_ops.proofs.set_word.Reads as set_word
use Rattle.refusal.proofs.Laws.{answer_once}

bit_unique : FixesResult 0 bit-kinds.ps bit-kinds.r bit.Post
bit_unique κs a x y s t p q = bit_once x y (p ∙ sym q)

set_bit_unique : FixesResult 0 set-bit-kinds.ps set-bit-kinds.r set-bit.Post
set_bit_unique κs a x y s t p q = answer_once x y (p ∙ sym q)

crumb_unique : FixesResult 0 crumb-kinds.ps crumb-kinds.r crumb.Post
crumb_unique κs a x y s t p q = answer_once x y (p ∙ sym q)

set_crumb_unique : FixesResult 0 set-crumb-kinds.ps set-crumb-kinds.r set-crumb.Post
set_crumb_unique κs a x y s t p q = answer_once x y (p ∙ sym q)

nibble_unique : FixesResult 0 nibble-kinds.ps nibble-kinds.r nibble.Post
nibble_unique κs a x y s t p q = answer_once x y (p ∙ sym q)

set_nibble_unique : FixesResult 0 set-nibble-kinds.ps set-nibble-kinds.r set-nibble.Post
set_nibble_unique κs a x y s t p q = answer_once x y (p ∙ sym q)

septet_unique : FixesResult 0 septet-kinds.ps septet-kinds.r septet.Post
septet_unique κs a x y s t p q = answer_once x y (p ∙ sym q)

set_septet_unique : FixesResult 0 set-septet-kinds.ps set-septet-kinds.r set-septet.Post
set_septet_unique κs a x y s t p q = answer_once x y (p ∙ sym q)

octet_unique : FixesResult 0 octet-kinds.ps octet-kinds.r octet.Post
octet_unique κs a x y s t p q = answer_once x y (p ∙ sym q)

set_octet_unique : FixesResult 0 set-octet-kinds.ps set-octet-kinds.r set-octet.Post
set_octet_unique κs a x y s t p q = answer_once x y (p ∙ sym q)

word_unique : FixesResult 0 word-kinds.ps word-kinds.r word.Post
word_unique κs a x y s t p q = answer_once x y (p ∙ sym q)

set_word_unique : FixesResult 0 set-word-kinds.ps set-word-kinds.r set_word.Post
set_word_unique κs a x y s t p q = answer_once x y (p ∙ sym q)
