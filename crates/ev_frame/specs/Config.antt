-- The configuration words of FRED (FRED specification, "FRED configuration MSRs", in the project's profile).
use Rattle.std.specs.Prelude.{ℕ, ◌≡◌, ◌<◌, ◌+◌, ◌-◌, ◌*◌, ◌/◌, ◌%◌, ◌^◌, Bool, not, ◌||◌, ◌==◌, if◌then◌else◌, nat_lt, Result, Ok, Err}
use Rattle.ev_isa.specs.Word.{bit}
use Rattle.ev_isa.specs.declared.fault.Unaligned.{Unaligned}
use Rattle.ev_frame.specs.declared.config.FredConfig.{FredConfig}
use Rattle.ev_frame.specs.declared.config.Reserved.{Reserved}

-- whether a CONFIG word has a reserved bit: bit 11, or one of 5:2 (bit 3 is that of shadow stacks, which are left out)
abbrev pub is_reserved : ℕ → Bool
is_reserved v = bit 11 v || not (v / 4 % 16 == 0)

-- the word of IA32_FRED_CONFIG
abbrev pub config_word : FredConfig → ℕ
config_word c = c.page + 2 ^ 9 * c.int_level + 2 ^ 6 * c.decrement + c.level

-- what the word reads as, where no reserved bit is set
unfoldable pub read_config : ℕ → Result FredConfig Reserved
read_config w = if is_reserved w then Err (record {})
    else Ok (record { page = w - w % 2 ^ 12; int_level = w / 2 ^ 9 % 4; decrement = w / 2 ^ 6 % 8; level = w % 4 })

-- the RSP of a stack level, which is a multiple of 64
abbrev pub level_rsp : ℕ → Result ℕ Unaligned
level_rsp v = if v % 64 == 0 then Ok v else Err (record {})

-- the stack level of a vector in the STKLVLS word, for vectors below 32
abbrev pub level_of : ℕ → ℕ → ℕ
level_of stklvls vector = if nat_lt vector 32 then stklvls / 4 ^ vector % 4 else 0

-- the fields within their widths, the page a multiple of 1000H
abbrev pub IsConfig : FredConfig → Type 0
IsConfig c = (c.page < 2 ^ 64) × (c.page % 2 ^ 12 ≡ 0) × (c.int_level < 4) × (c.decrement < 8) × (c.level < 4)

-- The laws of both directions: reading what was written gives the fields,
abbrev pub ConfigIsRead : Type 0
ConfigIsRead = (c : FredConfig) → IsConfig c → read_config (config_word c) ≡ Ok c

-- and what was read is within the widths, and writing it gives the word.
abbrev pub ConfigIsWritten : Type 0
ConfigIsWritten = (w : ℕ) (c : FredConfig) → w < 2 ^ 64 → read_config w ≡ Ok c → IsConfig c × (config_word c ≡ w)
