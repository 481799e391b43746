-- The words of the tables, the page map and the cells at the opening. Own.
use Rattle.std.specs.Prelude.{ℕ, ◌-◌, ◌*◌, ◌/◌, if◌then◌else◌}
use Rattle.ev_isa.specs.Word.{members, values}
use Rattle.ev_body.specs.declared.image.Image.{Image}
use Rattle.ev_body.specs.declared.key.Side.TheVariants.{User, Kernel}
use Rattle.ev_mem.specs.Memory.{page_map}
use Rattle.ev_listing.specs.AddressMap.{user_table, kernel_table, idt_base, cells_base}
use Rattle.ev_concrete.specs.Opening.{within, table_word, idt_word}

-- the word at a multiple of 8
unfoldable pub table_there : Image → ℕ → ℕ
table_there image a =
    if within user_table (8 * 257) a then table_word image User ((a - user_table) / 8)
    else (if within kernel_table (8 * 257) a then table_word image Kernel ((a - kernel_table) / 8)
    else (if within idt_base (16 * 256) a then idt_word ((a - idt_base) / 8)
    else (if within page_map (8 * 256) a then (if members image.pages ((a - page_map) / 8) then 1 else 0)
    else (if within cells_base (8 * 256) a then values image.cells ((a - cells_base) / 8) else 0))))
