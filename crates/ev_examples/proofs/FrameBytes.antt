-- The frame of a system call and a configuration word, there and back, and words that are refused.
use Rattle.std.specs.Prelude.{◌≡◌, refl, [], ◌∷◌, true, false, Ok, Err, take, set}
use Rattle.ev_frame.specs.Config.{config_word, level_of, read_config}
use Rattle.ev_frame.specs.Frame.{frame_bytes, read_frame, words_of}
use Rattle.ev_frame.specs.declared.config.FredConfig.{FredConfig}
use Rattle.ev_frame.specs.declared.frame.Frame64.{Frame64}
use Rattle.ev_frame.specs.declared.frame.FrameFault.{FrameFault}

call_frame : Frame64
call_frame = record {
  error = 0;
  rip = 0x40000c;
  cs = 0x33;
  old_level = 0;
  wfe = false;
  flags = 0x40202;
  rsp = 0;
  ss = 0x2b;
  sti = false;
  software = true;
  nmi = false;
  vector = 1;
  kind = 7;
  enclave = false;
  long = true;
  nested = false;
  length = 2;
  info = 0;
}

call_words : words_of call_frame ≡ 0 ∷ 0x40000c ∷ 0x33 ∷ 0x40202 ∷ 0 ∷ 0x220700010002002b ∷ 0 ∷ 0 ∷ []
unfolding call_frame
call_words = refl

frame_read : read_frame (frame_bytes call_frame) ≡ Ok call_frame
unfolding call_frame read_frame
frame_read = refl

-- bit 59 of the SS word
stray_bit : read_frame (set (frame_bytes call_frame) 47 0x2a) ≡ Err FrameFault.Reserved
unfolding call_frame read_frame
stray_bit = refl

short_frame : read_frame (take 63 (frame_bytes call_frame)) ≡ Err FrameFault.Short
unfolding call_frame read_frame
short_frame = refl

configuration : FredConfig
configuration = record { page = 0xffffffff81000000; int_level = 0; decrement = 1; level = 0 }

config_written : config_word configuration ≡ 0xffffffff81000040
unfolding configuration
config_written = refl

config_read : read_config 0xffffffff81000040 ≡ Ok configuration
unfolding configuration read_config
config_read = refl

-- bit 3, that of shadow stacks
config_refused : read_config 0xffffffff81000048 ≡ Err (record {})
unfolding read_config
config_refused = refl

-- the stack levels of #DF and NMI are 3 and 2, and that of a page fault is 0
double_fault_level : level_of 0x30020 8 ≡ 3
double_fault_level = refl

nmi_level : level_of 0x30020 2 ≡ 2
nmi_level = refl

page_fault_level : level_of 0x30020 14 ≡ 0
page_fault_level = refl
