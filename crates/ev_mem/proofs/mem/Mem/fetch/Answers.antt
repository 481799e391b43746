use Rattle.std.proofs.Common.{ℕ, ◌-◌, ◌%◌, List, take, drop, ap, refl, ◌∙◌}
use Rattle.ev_mem.specs.Memory.{code_bytes}
use Rattle.ev_mem.specs.Mapped.{memory}
use Rattle.ev_mem.specs.Code.{bytes_of_words}
use Rattle.ev_mem.proofs.Bytes.{three_words}
use Rattle.ev_mem.proofs.mem.Mem.fetch.Goals as goal

pub returns : goal.returns
unfolding code_bytes
returns c =
    c.window.ensures
    ∙ ap (λ (l : List ℕ). take 15 (drop (c.args.rip % 8) l))
    (ap bytes_of_words c.three_words-words.ensures
    ∙ three_words (memory c.args.self.now).words (c.args.rip - c.args.rip % 8) _ _ _ refl refl refl)
