-- Texts of `asm`, computed.
use Rattle.std.specs.Prelude.{◌≡◌, refl, List, ℕ, [], ◌∷◌, ◌++◌, codes}
use Rattle.std.specs.Fmt.{digits}
use Rattle.ev_isa.specs.Instruction.{is_instruction}
use Rattle.ev_isa.specs.Reading.{behind, forms, narrow_forms, plain_forms, prefixed_forms, reading, reg_at, rm_at, signed_at, wide_forms}
use Rattle.ev_isa.specs.Spelling.{four_bytes, spelling}
use Rattle.ev_asm_text.specs.AsmText.{instruction_lines}

unfoldable pub text_computes : Unit {0}
unfolding four_bytes spelling signed_at behind reg_at rm_at reading forms plain_forms wide_forms prefixed_forms narrow_forms is_instruction digits
    instruction_lines
text_computes = tt

-- mov rax 5, syscall, add rax rax, jmp to the start
unfoldable pub counting : List ℕ
counting = 0x48 ∷ 0xb8 ∷ 5 ∷ 0 ∷ 0 ∷ 0 ∷ 0 ∷ 0 ∷ 0 ∷ 0 ∷ 0x0f ∷ 0x05 ∷ 0x48 ∷ 0x01 ∷ 0xc0 ∷ 0xe9 ∷ 0xec ∷ 0xff ∷ 0xff ∷ 0xff ∷ []

counting_text : instruction_lines 20 0x400000 counting
    ≡ codes "400000 48b80500000000000000\n40000a 0f05\n40000c 4801c0\n40000f e9ecffffff\n"
unfolding text_computes counting
counting_text = refl

-- the same and bytes behind it that begin no instruction: the last of an instruction is not there
counting_cut : instruction_lines 23 0x400000 (counting ++ 0x48 ∷ 0xb8 ∷ 5 ∷ [])
    ≡ codes "400000 48b80500000000000000\n40000a 0f05\n40000c 4801c0\n40000f e9ecffffff\n"
unfolding text_computes counting
counting_cut = refl

-- no byte and no line
nothing : instruction_lines 0 0x400000 [] ≡ []
unfolding text_computes
nothing = refl
