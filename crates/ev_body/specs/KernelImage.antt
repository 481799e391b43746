-- A kernel image as contracts see it: plain data, without addresses of kernel code. Own.
use Rattle.std.specs.Prelude.{ℕ, List}
use Rattle.ev_body.specs.declared.body.Body.{Body}
use Rattle.ev_body.specs.declared.image.TaskSpec.{TaskSpec}

-- A kernel image as contracts see it.
pub record KernelImage : Type 0 where
  pub processors : ℕ
  pub nest : ℕ
  pub pages : List ℕ
  pub cells : List (ℕ × ℕ)
  pub text : List ℕ
  pub tasks : List (List TaskSpec)
  pub bodies : List Body
