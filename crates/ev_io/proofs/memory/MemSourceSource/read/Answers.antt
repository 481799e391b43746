use Rattle.std.proofs.Common.{◌++◌, Some, drop, take, ap, sym, ◌∙◌}
use Rattle.std.proofs.lemmas.List.{take-append-drop, drop-drop, take_rest}
use Rattle.ev_io.proofs.memory.MemSourceSource.read.Goals as goal

pub returns-clause-bytes : goal.returns-clause-bytes
returns-clause-bytes c =
    let at = c.args.self.now.at in
    let bytes = c.args.self.now.bytes.items in
    let n = c.fill-n.result in
    let whole = take_rest c.deref-2.result.now at ∙ ap (drop at) c.deref-2.ensures.value in
    let start = c.fill-n.ensures.bytes ∙ ap (take n) whole in
    ap Some (sym (take-append-drop n (drop at bytes)) ∙ ap (λ xs. xs ++ drop n (drop at bytes)) (sym start) ∙ ap (λ xs. take n c.fill-n.new.buf ++ xs)
    (drop-drop n at bytes))
