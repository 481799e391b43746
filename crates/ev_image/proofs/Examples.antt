-- Documents read by computing the definitions: an image, and a refusal of each cause with its line.
use Rattle.std.specs.Prelude.{◌≡◌, refl, ℕ, List, [], ◌∷◌, ◌++◌, length, replicate, codes, Option, Some, None, Result, Ok, Err}
use Rattle.ev_io.specs.declared.cause.Cause.{Cause}
use Rattle.ev_io.specs.Follow.{tokens_follow, line_follows, read}
use Rattle.ev_io.specs.InputLines.{lines_of, text_of, byte_fault, fault_from}
use Rattle.ev_io.specs.Number.{digit, is_digits, is_decimal, is_hexadecimal, value as digits_value, below_word, number_of}
use Rattle.ev_io.specs.Tokens.{pieces, tokens_of, is_passed_over}
use Rattle.ev_line.specs.Forms.{same_kind, kind_of, kind_by_start, kind_among, takes, kind_here, is_shaped, fitting, read_places, read_form, read_fitting, read_forms, read_by}
use Rattle.ev_line.specs.Names.{is_good_name, register_of, low_digit, interrupt_key, key_of, side_of}
use Rattle.ev_line.specs.Operands.{number, number_within, displacement, signed, processor, register, local, label, key, side, sent_key, closed, behind_word, parted, memory_parts, gs_part, based, memory, gs, value}
use Rattle.ev_text.specs.TextForms.{text_forms, statement_forms}
use Rattle.ev_text.specs.UserText.{text_grown, text_ended}
use Rattle.ev_text.specs.Words.{alu_word, jump_word, lone_word, long_word, move_word, other_word, text_word}
use Rattle.ev_part.specs.BodyParts.{function_part, body_ended}
use Rattle.ev_part.specs.ItemForms.{item_forms, part_forms}
use Rattle.ev_part.specs.ItemWords.{lone_item, jump_item, local_item, shared_item, call_item, long_item, operand_item, item_word}
use Rattle.ev_part.specs.PartItems.{is_end, ends_part, leads, item_at, is_second_here, part_grown}
use Rattle.ev_image.specs.Head.{nothing_given, plain_body, tasks_by, kernel_does, head_follows}
use Rattle.ev_image.specs.declared.head.Head.{Head}
use Rattle.ev_image.specs.declared.kernel.Start.{Start}
use Rattle.ev_image.specs.declared.kernel.Kernel.{Kernel}
use Rattle.ev_image.specs.LabelLine.{label_name}
use Rattle.ev_image.specs.Reads.{Opened, opened}
use Rattle.ev_image.specs.Sections.{version_forms, processors_forms, nest_forms, start_forms, end_forms, text_said, task_forms, between_forms, filled_forms, part_said, behind_forms}
use Rattle.ev_isa.specs.declared.instruction.Ins.TheVariants as Ins
use Rattle.ev_body.specs.declared.key.Key.TheVariants as Key
use Rattle.ev_body.specs.declared.key.Side.TheVariants as Side
use Rattle.ev_body.specs.declared.item.Item.TheVariants as Item
use Rattle.ev_body.specs.declared.body.Body.{Body}
use Rattle.ev_part.specs.declared.line.BodyLine.TheVariants as BodyLine
use Rattle.ev_asm.specs.declared.statement.Stmt.TheVariants as Stmt
use Rattle.ev_asm.specs.Assembled.{is_second_label, first_at, leads_nowhere, first_too_large, addresses_of, assembled}
use Rattle.ev_asm.specs.Assembly.{size, places, distance, stmt_bytes, code}
use Rattle.ev_isa.specs.Spelling.{four_bytes, spelling}
use Rattle.ev_body.specs.Bodies.{key_number, covers}
use Rattle.ev_body.specs.WellFormed.{is_user_only, is_user_side}
use Rattle.ev_abstract.specs.EntryText.{key_text, side_text}

unfoldable computing : Unit {0}
unfolding tokens_follow line_follows read lines_of text_of byte_fault fault_from digit is_digits is_decimal is_hexadecimal digits_value below_word number_of
    pieces tokens_of is_passed_over same_kind kind_of kind_by_start kind_among takes kind_here is_shaped fitting read_places read_form read_fitting
    read_forms read_by is_good_name register_of low_digit interrupt_key key_of side_of number number_within displacement signed processor register local
    label key side sent_key closed behind_word parted memory_parts gs_part based memory gs value text_forms statement_forms text_grown text_ended alu_word
    jump_word lone_word long_word move_word other_word text_word function_part body_ended item_forms part_forms lone_item jump_item local_item shared_item
    call_item long_item operand_item item_word is_end ends_part leads item_at is_second_here part_grown tasks_by kernel_does head_follows label_name opened
    version_forms processors_forms nest_forms start_forms end_forms text_said task_forms between_forms filled_forms part_said behind_forms is_second_label
    first_at leads_nowhere first_too_large addresses_of assembled size places distance stmt_bytes code four_bytes spelling key_number covers is_user_only
    is_user_side key_text side_text
computing = tt

-- the first line that doesn't follow, with its cause
abbrev refusal_of : Result Opened (ℕ × Cause) → Option (ℕ × Cause)
refusal_of (Ok o) = None
refusal_of (Err e) = Some e

abbrev refusal : List ℕ → Option (ℕ × Cause)
refusal bytes = refusal_of (opened 0 0 Head.Image (lines_of bytes))

-- the numbers of processors, of bytes of text and of bodies
abbrev sizes_of : Result Opened (ℕ × Cause) → Option (ℕ × ℕ × ℕ)
sizes_of (Ok o) = Some (o.image.processors, length o.image.text, length o.image.bodies)
sizes_of (Err e) = None

abbrev sizes : List ℕ → Option (ℕ × ℕ × ℕ)
sizes bytes = sizes_of (opened 0 0 Head.Image (lines_of bytes))

-- the first lines of a document
unfoldable head : List ℕ
head = codes "image 1\nprocessors 1\nnest 1\ntext\nstart:\nnop\nendtext\ntask 0 start 0\n"

a_document : sizes (head ++ codes "body sys user\nlog rdi\nret\nendbody\nfill\nscript\n") ≡ Some (1, 1, 8)
unfolding computing head
a_document = refl

of_all_sections : sizes
    (codes "image 1\nprocessors 2\nnest 2\n# a comment\n\npage 3\ncell 0 0x10\ntext\nstart:\nmov rax 5\njmp start\nendtext\n"
    ++ codes "task 0 start 0\nreg rbx 7\ntask 1 start 1\nbody irqfb both\ntake\nret\nfunc 3\nlog r9\nfinish\nendbody\nscript\n")
    ≡ Some (2, 15, 1)
unfolding computing
of_all_sections = refl

no_image : refusal [] ≡ Some (0, Cause.NoEnd)
unfolding computing
no_image = refl

no_script : refusal head ≡ Some (8, Cause.NoEnd)
unfolding computing head
no_script = refl

version_too_large : refusal (codes "image 3\n") ≡ Some (1, Cause.Limit)
unfolding computing
version_too_large = refl

number_too_large : refusal (codes "image 1\nprocessors 9\n") ≡ Some (2, Cause.Limit)
unfolding computing
number_too_large = refl

unknown_word : refusal (codes "image 1\nnest 1\n") ≡ Some (2, Cause.Word)
unfolding computing
unknown_word = refl

leading_zero : refusal (codes "image 01\n") ≡ Some (1, Cause.Number)
unfolding computing
leading_zero = refl

not_printable : refusal (codes "image 1" ++ 9 ∷ 10 ∷ []) ≡ Some (1, Cause.NotAscii)
unfolding computing
not_printable = refl

second_page : refusal (codes "image 1\nprocessors 1\nnest 1\npage 1\npage 1\n") ≡ Some (5, Cause.Double)
unfolding computing
second_page = refl

second_label : refusal (codes "image 1\nprocessors 1\nnest 1\ntext\na:\na:\n") ≡ Some (6, Cause.Double)
unfolding computing
second_label = refl

label_with_statement : refusal (codes "image 1\nprocessors 1\nnest 1\ntext\na: nop\n") ≡ Some (5, Cause.Count)
unfolding computing
label_with_statement = refl

jump_to_nowhere : refusal (codes "image 1\nprocessors 1\nnest 1\ntext\njmp a\nendtext\n") ≡ Some (6, Cause.NoLabel)
unfolding computing
jump_to_nowhere = refl

no_processor : refusal (codes "image 1\nprocessors 1\nnest 1\ntext\na:\nendtext\ntask 1 a 0\n") ≡ Some (7, Cause.NoSuchProcessor)
unfolding computing
no_processor = refl

no_task : refusal (codes "image 1\nprocessors 2\nnest 1\ntext\na:\nendtext\ntask 0 a 0\nscript\n") ≡ Some (8, Cause.Tasks)
unfolding computing
no_task = refl

register_given_twice : refusal (head ++ codes "reg rax 1\nreg rax 2\n") ≡ Some (10, Cause.Double)
unfolding computing head
register_given_twice = refl

side_that_the_key_cannot_have : refusal (head ++ codes "body sys both\n") ≡ Some (9, Cause.Name)
unfolding computing head
side_that_the_key_cannot_have = refl

second_body : refusal (head ++ codes "body bp both\nret\nendbody\nbody bp user\n") ≡ Some (12, Cause.Double)
unfolding computing head
second_body = refl

endbody_before_ret : refusal (head ++ codes "body sys user\ngoto a\nendbody\n") ≡ Some (11, Cause.Word)
unfolding computing head
endbody_before_ret = refl

jump_out_of_a_part : refusal (head ++ codes "body sys user\ngoto a\nret\nendbody\n") ≡ Some (12, Cause.NoLabel)
unfolding computing head
jump_out_of_a_part = refl

second_function : refusal (head ++ codes "body irqfb both\ntake\nret\nfunc 0\nfinish\nfunc 0\n") ≡ Some (14, Cause.Double)
unfolding computing head
second_function = refl

function_elsewhere : refusal (head ++ codes "body sys user\nret\nfunc 0\n") ≡ Some (11, Cause.Word)
unfolding computing head
function_elsewhere = refl

-- reading ends at the line `script`: what stands behind it is no part of the image
behind_script : sizes (head ++ codes "script\nturn 0\nend\n") ≡ Some (1, 1, 0)
unfolding computing head
behind_script = refl

-- ---- one cause each, by what is wrong

count_of_operands : refusal (codes "image\n") ≡ Some (1, Cause.Count)
unfolding computing
count_of_operands = refl

-- a memory operand without its bracket is out of place, whatever the number of tokens
word_before_count : refusal (codes "image 1\nprocessors 1\nnest 1\ntext\nmov [rax 1 2\n") ≡ Some (5, Cause.Word)
unfolding computing
word_before_count = refl

count_before_name : refusal (head ++ codes "reg rzx 1 2\n") ≡ Some (9, Cause.Count)
unfolding computing head
count_before_name = refl

unknown_name : refusal (head ++ codes "reg rzx 1\n") ≡ Some (9, Cause.Name)
unfolding computing head
unknown_name = refl

-- tokens count from left to right
double_before_number : refusal (codes "image 1\nprocessors 1\nnest 1\ncell 1 0\ncell 1 x\n") ≡ Some (5, Cause.Double)
unfolding computing
double_before_number = refl

limit_of_processors : refusal (codes "image 1\nprocessors 0\n") ≡ Some (2, Cause.Limit)
unfolding computing
limit_of_processors = refl

limit_of_nesting : refusal (codes "image 1\nprocessors 1\nnest 33\n") ≡ Some (3, Cause.Limit)
unfolding computing
limit_of_nesting = refl

limit_of_pages : refusal (codes "image 1\nprocessors 1\nnest 1\npage 255\npage 256\n") ≡ Some (5, Cause.Limit)
unfolding computing
limit_of_pages = refl

word_of_64_bits : refusal (codes "image 1\nprocessors 1\nnest 1\ncell 0 0xffffffffffffffff\ncell 1 0x10000000000000000\n") ≡ Some (5, Cause.Number)
unfolding computing
word_of_64_bits = refl

bad_label : refusal (codes "image 1\nprocessors 1\nnest 1\ntext\n1a:\n") ≡ Some (5, Cause.Name)
unfolding computing
bad_label = refl

-- the kernel's instructions are no user text
kernel_instruction : refusal (codes "image 1\nprocessors 1\nnest 1\ntext\nswapgs\n") ≡ Some (5, Cause.Word)
unfolding computing
kernel_instruction = refl

task_at_no_label : refusal (head ++ codes "task 0 away 0\n") ≡ Some (9, Cause.NoLabel)
unfolding computing head
task_at_no_label = refl

limit_of_gs : refusal (head ++ codes "task 0 start 0x100000000\n") ≡ Some (9, Cause.Limit)
unfolding computing head
limit_of_gs = refl

limit_of_tasks : refusal (head ++ codes "task 0 start 0\ntask 0 start 0\ntask 0 start 0\ntask 0 start 0\n") ≡ Some (12, Cause.Limit)
unfolding computing head
limit_of_tasks = refl

register_without_task : refusal (codes "image 1\nprocessors 1\nnest 1\ntext\na:\nendtext\nreg rax 1\n") ≡ Some (7, Cause.Word)
unfolding computing
register_without_task = refl

key_in_upper_case : refusal (head ++ codes "body irqFD user\n") ≡ Some (9, Cause.Name)
unfolding computing head
key_in_upper_case = refl

-- sides of one key that have none in common are two bodies
body_of_each_side : sizes (head ++ codes "body bp kernel\nret\nendbody\nbody bp user\nret\nendbody\nscript\n") ≡ Some (1, 1, 2)
unfolding computing head
body_of_each_side = refl

body_without_ret : refusal (head ++ codes "body sys user\nendbody\n") ≡ Some (10, Cause.Word)
unfolding computing head
body_without_ret = refl

item_behind_ret : refusal (head ++ codes "body sys user\nret\nnop\n") ≡ Some (11, Cause.Word)
unfolding computing head
item_behind_ret = refl

finish_in_a_main_part : refusal (head ++ codes "body sys user\nfinish\n") ≡ Some (10, Cause.Word)
unfolding computing head
finish_in_a_main_part = refl

ret_in_a_function : refusal (head ++ codes "body irqfb both\nret\nfunc 0\nret\n") ≡ Some (12, Cause.Word)
unfolding computing head
ret_in_a_function = refl

limit_of_functions : refusal (head ++ codes "body irqfb both\nret\nfunc 8\n") ≡ Some (11, Cause.Limit)
unfolding computing head
limit_of_functions = refl

function_of_two_bodies : refusal (head ++ codes "body irqfb user\nret\nfunc 1\nfinish\nendbody\nbody irqfb kernel\nret\nfunc 1\n") ≡ Some (16, Cause.Double)
unfolding computing head
function_of_two_bodies = refl

label_given_twice_in_a_part : refusal (head ++ codes "body sys user\na:\na:\n") ≡ Some (11, Cause.Double)
unfolding computing head
label_given_twice_in_a_part = refl

label_of_two_parts : sizes (head ++ codes "body irqfb both\na:\ngoto a\nret\nfunc 1\na:\ngoto a\nfinish\nendbody\nscript\n") ≡ Some (1, 1, 1)
unfolding computing head
label_of_two_parts = refl

local_that_is_none : refusal (head ++ codes "body sys user\nset rax 1\n") ≡ Some (10, Cause.Name)
unfolding computing head
local_that_is_none = refl

body_behind_fill : refusal (head ++ codes "fill\nbody sys user\n") ≡ Some (10, Cause.Word)
unfolding computing head
body_behind_fill = refl

last_line_without_end : sizes (head ++ codes "script") ≡ Some (1, 1, 0)
unfolding computing head
last_line_without_end = refl

line_too_long : refusal (replicate 4097 0x23) ≡ Some (1, Cause.TooLong)
unfolding computing
line_too_long = refl

-- ---- one thing more than a limit, on what stands

unfoldable cause_of : Result Head Cause → Option Cause
cause_of (Ok head) = None
cause_of (Err cause) = Some cause

-- the cause of a line behind so many bytes, where this stands
abbrev cause_at : ℕ → Head → List ℕ → Option Cause
cause_at before head line = cause_of (line_follows head_follows before head line)

abbrev start : Start
start = nothing_given 1 1

-- bodies that stand behind a text without a byte
abbrev with_bodies : List Body → Kernel
with_bodies bodies = record { start = start; text = record { bytes = []; labels = [] }; tasks = []; last = None; bodies = bodies }

-- a body of so many items
abbrev items_read : ℕ → Head
items_read n = Head.Body (with_bodies []) (record {
  key = Key.Sys;
  side = Side.User;
  finished = [];
  part = record { func = None; first = 0; lines = replicate n (BodyLine.Does Item.Nop) };
})

byte_8388609 : cause_at 8388608 Head.Image (codes "image 1") ≡ Some Cause.TooLarge
unfolding computing cause_of
byte_8388609 = refl

item_257 : cause_at 0 (items_read 256) (codes "nop") ≡ Some Cause.Limit
unfolding computing cause_of
item_257 = refl

item_256 : cause_at 0 (items_read 255) (codes "nop") ≡ None
unfolding computing cause_of
item_256 = refl

body_65 : cause_at 0 (Head.Bodies (with_bodies (replicate 64 (plain_body Key.Sys)))) (codes "body irq20 user") ≡ Some Cause.Limit
unfolding computing cause_of
body_65 = refl

body_64 : cause_at 0 (Head.Bodies (with_bodies (replicate 63 (plain_body Key.Sys)))) (codes "body irq20 user") ≡ None
unfolding computing cause_of
body_64 = refl

filled_to_65 : cause_at 0 (Head.Bodies (with_bodies (replicate 57 (plain_body (Key.Irq 32))))) (codes "fill") ≡ Some Cause.Limit
unfolding computing cause_of
filled_to_65 = refl

filled_to_64 : cause_at 0 (Head.Bodies (with_bodies (replicate 56 (plain_body (Key.Irq 32))))) (codes "fill") ≡ None
unfolding computing cause_of
filled_to_64 = refl

-- a text of 65,510 bytes, and ten more
text_of_65520 : cause_at 0 (Head.Text start (replicate 6551 (Stmt.Plain (Ins.MovImm 0 0)))) (codes "mov rax 0") ≡ None
unfolding computing cause_of
text_of_65520 = refl

text_of_65521 : cause_at 0 (Head.Text start (replicate 6552 (Stmt.Plain (Ins.MovImm 0 0)))) (codes "nop") ≡ Some Cause.Limit
unfolding computing cause_of
text_of_65521 = refl
