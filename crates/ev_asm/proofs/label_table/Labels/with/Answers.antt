use Rattle.std.proofs.Common.{◌≡◌, Option, None, Some, cond, string_bytes, sym, ap, ◌∙◌, subst, List, ℕ}
use Rattle.std.proofs.lemmas.Map.Text.{btree_map_updates_text}
use Rattle.std.proofs.lemmas.Result.{IfOk-at_ok}
use Rattle.std.specs.Str.{bytes_eq}
use Rattle.std.specs.BTreeMap.{get_by_text}
use Rattle.std.specs.Map.{update}
use Rattle.ev_asm.specs.Assembly.{Places}
use Rattle.ev_asm.specs.LabelTable.{found}
use Rattle.ev_asm.proofs.LabelLaws.{found_more}
use Rattle.ev_asm.proofs.label_table.Labels.with.Goals as goal

pub invariant_of-result : goal.invariant_of-result
invariant_of-result c = λ q.
    let key : string_bytes c.in_ok-key.key ≡ c.args.name = IfOk-at_ok (λ s. string_bytes s ≡ c.as_str.result.now) c.in_ok-key.was c.from_str.ensures.ok
    ∙ c.as_str.ensures.value in
    let sets = btree_map_updates_text (string_bytes c.in_ok-key.key) c.self.inside.index c.insert.new.self _ c.in_ok-insert.ensures.updates q in
    let absent : found c.self.inside.given.items c.args.name ≡ None = subst (λ (l : Places). found l c.args.name ≡ None) (sym c.self.view_is) c.requires in
    let more = found_more c.self.inside.given.items c.args.name c.args.place q absent in
    let before = c.self.invariant q in
    let pushed = c.in_ok-push.ensures.items in
    let moved = subst (λ (b : List ℕ). get_by_text c.insert.new.self q ≡ update bytes_eq (get_by_text c.self.inside.index) b (Some c.args.place) q) key sets in
    rw pushed (moved ∙ ap (λ (v : Option ℕ). cond (bytes_eq c.args.name q) (Some c.args.place) v) before ∙ sym more)
