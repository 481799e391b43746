use Rattle.std.proofs.Common.{◌≡◌, ◌<◌, ◌≤◌, ℕ, length, slice_get, Some}
use Rattle.ev_core.specs.Local.{after_send}
use Rattle.ev_core.specs.declared.local.Local.{Local}
use Rattle.ev_core.proofs.mail.post.Given as goal

-- those passed have their mail, and the others are as they were
abbrev pub invariant-loop-q : goal.invariant-loop-q
invariant-loop-q l = record {
  same : length l.locals.items ≡ length l.fn.locals.items;
  passed : (k : ℕ) (x : Local) → k < l.q → slice_get l.fn.locals.items k ≡ Some x → slice_get l.locals.items k ≡ Some (after_send l.send l.p k x);
  left : (k : ℕ) → l.q ≤ k → slice_get l.locals.items k ≡ slice_get l.fn.locals.items k;
}
