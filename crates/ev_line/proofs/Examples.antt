-- Operands, and the kind of an operand by its first characters.
use Rattle.std.proofs.Common.{◌≡◌, refl, [], ◌∷◌, Ok, Err}
use Rattle.std.specs.Prelude.{ℕ, pos, negsuc, codes, List}
use Rattle.ev_body.specs.declared.key.Key.TheVariants as Key
use Rattle.ev_body.specs.declared.key.Side.TheVariants as Side
use Rattle.ev_io.specs.declared.cause.Cause.TheVariants as Cause
use Rattle.ev_io.specs.Number.{number_of, is_decimal, is_hexadecimal, is_digits, digit, value, below_word}
use Rattle.ev_abstract.specs.EntryText.{key_text, side_text}
use Rattle.ev_line.specs.declared.kind.Kind.TheVariants as Kind
use Rattle.ev_line.specs.Names.{is_good_name, register_of, low_digit, interrupt_key, key_of, side_of}
use Rattle.ev_line.specs.Operands.{number, number_within, displacement, signed, processor, register, local, label, key, side, sent_key, closed, parted, behind_word, memory_parts, gs_part, based, memory, gs}
use Rattle.ev_line.specs.Forms.{kind_by_start}

unfoldable reading_numbers : List ℕ
unfolding number_of is_decimal is_hexadecimal is_digits digit value below_word number number_within displacement signed processor
reading_numbers = []

numbers : number (codes "0x1F") ∷ number (codes "01") ∷ number_within 1 63 (codes "64") ∷ number_within 1 63 (codes "63") ∷ processor 2 (codes "2") ∷ []
    ≡ Ok 31 ∷ Err Cause.Number ∷ Err Cause.Limit ∷ Ok 63 ∷ Err Cause.NoSuchProcessor ∷ []
unfolding reading_numbers
numbers = refl

signed_numbers : signed (codes "-2147483648") ∷ signed (codes "2147483648") ∷ signed (codes "-") ∷ signed (codes "-0") ∷ []
    ≡ Ok (negsuc 2147483647) ∷ Err Cause.Limit ∷ Err Cause.Number ∷ Ok (pos 0) ∷ []
unfolding reading_numbers
signed_numbers = refl

registers : register (codes "r15") ∷ register (codes "r16") ∷ local (codes "rdi") ∷ local (codes "rax") ∷ [] ≡ Ok 15 ∷ Err Cause.Name ∷ Ok 7
    ∷ Err Cause.Name ∷ []
unfolding register local register_of
registers = refl

names : label (codes "a_1") ∷ label (codes "1a") ∷ label [] ∷ label (codes "a234567890123456789012345678901") ∷ label
    (codes "a2345678901234567890123456789012") ∷ []
    ≡ Ok (codes "a_1") ∷ Err Cause.Name ∷ Err Cause.Name ∷ Ok (codes "a234567890123456789012345678901") ∷ Err Cause.Name ∷ []
unfolding label is_good_name
names = refl

keys : key (codes "irq20") ∷ key (codes "irq1f") ∷ key (codes "irqFF") ∷ sent_key (codes "nmi") ∷ sent_key (codes "pf") ∷ []
    ≡ Ok (Key.Irq 32) ∷ Err Cause.Name ∷ Err Cause.Name ∷ Ok Key.Nmi ∷ Err Cause.Name ∷ []
unfolding key sent_key key_of key_text interrupt_key low_digit
keys = refl

sides : side (codes "both") ∷ side (codes "none") ∷ [] ≡ Ok Side.Both ∷ Err Cause.Name ∷ []
unfolding side side_of side_text
sides = refl

memory_operands : memory (codes "[rbx+8]") ∷ memory (codes "[rbx-8]") ∷ memory (codes "[rbx8]") ∷ memory (codes "[rbx+8") ∷ memory (codes "[+x]") ∷ memory
    (codes "[rbx+]") ∷ []
    ≡ Ok (3, pos 8) ∷ Ok (3, negsuc 7) ∷ Err Cause.Word ∷ Err Cause.Word ∷ Err Cause.Name ∷ Err Cause.Number ∷ []
unfolding reading_numbers memory memory_parts closed parted behind_word based register register_of
memory_operands = refl

gs_operands : gs (codes "gs:[0x30]") ∷ gs (codes "gs:[-8]") ∷ gs (codes "gs:0x30]") ∷ [] ≡ Ok (pos 48) ∷ Err Cause.Number ∷ Err Cause.Word ∷ []
unfolding reading_numbers gs gs_part closed behind_word
gs_operands = refl

kinds : kind_by_start (codes "[x") ∷ kind_by_start (codes "gs:[") ∷ kind_by_start (codes "-x") ∷ kind_by_start (codes "7") ∷ kind_by_start (codes "gs:") ∷ []
    ≡ Kind.Memory ∷ Kind.GsMemory ∷ Kind.Number ∷ Kind.Number ∷ Kind.Register ∷ []
unfolding kind_by_start
kinds = refl
