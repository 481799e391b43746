-- What the blocks of bodies come to, in any layout and mode: the numbers of items are variables of the proof.
use Rattle.std.specs.Prelude.{◌≡◌, ℤ, ℕ, pos, ◌+◌, Bool, false, [], ◌∷◌, length, Some}
use Rattle.ev_isa.specs.Spelling.{spelling}
use Rattle.ev_isa.specs.declared.instruction.Ins.{Ins}
use Rattle.ev_isa.specs.declared.instruction.Ins.TheVariants.{MovReg, AluImm, Jmp, Jcc, Sti, Wrmsr}
use Rattle.ev_isa.specs.declared.instruction.AluOp.TheVariants.{Cmp}
use Rattle.ev_isa.specs.declared.instruction.Cond.TheVariants.{Nz}
use Rattle.ev_mem.specs.Memory.{page_map}
use Rattle.ev_symbolic.specs.Value.{V, K, X}
use Rattle.ev_symbolic.specs.State.{SS}
use Rattle.ev_symbolic.specs.Run.{brun}
use Rattle.ev_symbolic.specs.Openings.{at_base}
use Rattle.ev_symbolic.specs.Names.{item_tag, top_less}
use Rattle.ev_blocks.specs.Shapes.{Layout, body_bytes}
use Rattle.ev_paths.specs.Ends.{TellsNoCr2}
use Rattle.ev_blocks.specs.Items.{BodySpot, AtNumber, AtNumbers, AtKick, AtUserWord, AtPageWord, BehindSti, BehindKick, masked, page_word, body_block, behind_move, behind_sti, behind_branch, behind_kick}

-- The block comes to so many bytes behind the item's beginning, with these values in RAX, RCX and RDX, nothing blocked, and else as it opened, flags aside.
pub record Comes (fred : Bool) (layout : Layout) (s : BodySpot) (offset : ℕ) (rax rcx rdx : V) : Type 0 where
  pub z : SS
  pub runs : brun (body_block fred layout s) (body_block fred layout s).steps ≡ Some z
  pub is : record z { flags = (body_block fred layout s).opening.flags } ≡ record (body_block fred layout s).opening {
    rip = at_base item_tag offset;
    regs =
        rax ∷ rcx ∷ rdx ∷ X 3 ∷ top_less (body_bytes layout) ∷ X 5 ∷ X 6 ∷ X 7 ∷ X 8 ∷ X 9 ∷ X 10 ∷ X 11 ∷ X 12 ∷ X 13 ∷ X 14 ∷ X 15 ∷ [];
    blocked = false;
  }

-- each block of a body
pub record BodyEnds (fred : Bool) (layout : Layout) : Type 0 where
  pub number : (n : ℕ) → Comes fred layout (AtNumber n) 10 (K n) (X 1) (X 2)
  pub numbers : (rcx rax rdx : ℕ) → Comes fred layout (AtNumbers rcx rax rdx) 30 (K rax) (K rcx) (K rdx)
  pub kick : (to : ℕ) → Comes fred layout (AtKick to) (behind_branch + 30) (K 0x40fb) (K 0x830) (K to)
  pub user_word : Comes fred layout AtUserWord (behind_move + 13) masked (K 0x7ffffffffff8) (X 2)
  pub page_word : (is_page : Bool) → Comes fred layout (AtPageWord is_page) (behind_move + 57) (page_word is_page) (K page_map) (X 2)
  pub behind_sti : Comes fred layout BehindSti (behind_sti + 1) (X 0) (X 1) (X 2)
  pub behind_kick : Comes fred layout BehindKick (behind_kick + 6) (X 0) (X 1) (X 2)

-- in every layout and mode
abbrev pub AllBodyEnds : Type 0
AllBodyEnds = (fred : Bool) (layout : Layout) → BodyEnds fred layout

-- no block of a body is told of CR2
abbrev pub BodyTellsNoCr2 : Type 0
BodyTellsNoCr2 = (fred : Bool) (layout : Layout) (s : BodySpot) → TellsNoCr2 (body_block fred layout s)

-- the offsets in items at which blocks open, by the lengths of what stands before them, whatever the registers and distances
pub record ItemOffsets : Type 0 where
  pub move : (s : ℕ) → length (spelling (MovReg 0 s)) ≡ behind_move
  pub branch : (s : ℕ) (d : ℤ) → length (spelling (AluImm Cmp s (pos 2))) + length (spelling (Jcc Nz d)) ≡ behind_branch
  pub sti : length (spelling Sti) ≡ behind_sti
  pub kick : (behind_branch + 30) + length (spelling Wrmsr) ≡ behind_kick
  pub skipped : length (spelling (Jmp (pos 1))) + length (spelling Ins.Nop) ≡ 6
