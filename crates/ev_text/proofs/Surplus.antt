-- Lines of words with several forms that have a token too many.
use Rattle.std.proofs.Common.{◌≡◌, ◌<◌, true, false, List, [], ◌∷◌, length, map, Bor, Err, refl, sym, ap, ◌∙◌, subst, arith}
use Rattle.std.specs.Prelude.{◌==◌}
use Rattle.ev_io.specs.declared.cause.Cause.{Cause}
use Rattle.ev_io.specs.Tokens.{Token}
use Rattle.ev_isa.specs.declared.instruction.AluOp.{AluOp}
use Rattle.ev_line.specs.declared.kind.Kind.{Kind}
use Rattle.ev_line.specs.Forms.{is_shaped, kind_by_start, read_forms}
use Rattle.ev_text.specs.declared.words.TextWord.TheVariants as Word
use Rattle.ev_text.specs.TextForms.{text_forms}
use Rattle.ev_text.specs.Counted.{surplus_move, surplus_store, surplus_push}
use Rattle.ev_text.proofs.Choosing.{choosing}

abbrev texts : List (Bor Token) → List Token
texts rest = map (λ t. t.now) rest

nothing : (xs : List (Bor Token)) → length xs ≡ 0 → texts xs ≡ []
nothing [] h = refl
nothing (x ∷ xs) h = absurd (omega arith)

some : (xs : List (Bor Token)) → false ≡ (length xs == 0) → 0 < length (texts xs)
some [] h = absurd cc
some (x ∷ xs) h = omega arith

register_three : (k : Kind) (d s t : Token) (ts : List Token) → kind_by_start d ≡ Kind.Register → kind_by_start s ≡ k → is_shaped k s ≡ true →
    read_forms (text_forms Word.Mov) (d ∷ s ∷ t ∷ ts) ≡ Err (surplus_move k)
unfolding choosing
register_three Kind.Memory d s t ts hd hs h = grind arith
register_three Kind.GsMemory d s t ts hd hs h = grind arith
register_three Kind.Number d s t ts hd hs h = grind arith
register_three Kind.Word d s t ts hd hs h = grind arith
register_three Kind.Register d s t ts hd hs h = grind arith

pub register_surplus : (d s : Token) (more : List Token) → 0 < length more → kind_by_start d ≡ Kind.Register → is_shaped (kind_by_start s) s ≡ true →
    read_forms (text_forms Word.Mov) (d ∷ s ∷ more) ≡ Err (surplus_move (kind_by_start s))
register_surplus d s [] l hd h = absurd (omega arith)
register_surplus d s (t ∷ ts) l hd h = register_three (kind_by_start s) d s t ts hd refl h

memory_three : (k : Kind) (m s t : Token) (ts : List Token) → kind_by_start m ≡ Kind.Memory → is_shaped Kind.Memory m ≡ true → kind_by_start s ≡ k →
    read_forms (text_forms Word.Mov) (m ∷ s ∷ t ∷ ts) ≡ Err (surplus_store k)
unfolding choosing
memory_three Kind.Memory m s t ts hm g hs = grind arith
memory_three Kind.GsMemory m s t ts hm g hs = grind arith
memory_three Kind.Number m s t ts hm g hs = grind arith
memory_three Kind.Word m s t ts hm g hs = grind arith
memory_three Kind.Register m s t ts hm g hs = grind arith

pub memory_surplus : (m s : Token) (more : List Token) → 0 < length more → kind_by_start m ≡ Kind.Memory → is_shaped Kind.Memory m ≡ true →
    read_forms (text_forms Word.Mov) (m ∷ s ∷ more) ≡ Err (surplus_store (kind_by_start s))
memory_surplus m s [] l hm g = absurd (omega arith)
memory_surplus m s (t ∷ ts) l hm g = memory_three (kind_by_start s) m s t ts hm g refl

-- a first operand out of place
pub no_mov : (d : Token) (ts : List Token) → kind_by_start d ≡ Kind.Number → read_forms (text_forms Word.Mov) (d ∷ ts) ≡ Err Cause.Word
unfolding choosing
no_mov d [] h = grind arith
no_mov d (t ∷ ts) h = grind arith

pub no_mov_word : (d : Token) (ts : List Token) → kind_by_start d ≡ Kind.Word → read_forms (text_forms Word.Mov) (d ∷ ts) ≡ Err Cause.Word
unfolding choosing
no_mov_word d [] h = grind arith
no_mov_word d (t ∷ ts) h = grind arith

pub unshaped_mov : (d : Token) (ts : List Token) → is_shaped (kind_by_start d) d ≡ false → read_forms (text_forms Word.Mov) (d ∷ ts) ≡ Err Cause.Word
unfolding choosing
unshaped_mov d ts h = grind arith

-- `push`
push_two : (k : Kind) (s t : Token) (ts : List Token) → kind_by_start s ≡ k → is_shaped k s ≡ true
    → read_forms (text_forms Word.Push) (s ∷ t ∷ ts) ≡ Err (surplus_push k)
unfolding choosing
push_two Kind.Memory s t ts hs h = grind arith
push_two Kind.GsMemory s t ts hs h = grind arith
push_two Kind.Number s t ts hs h = grind arith
push_two Kind.Word s t ts hs h = grind arith
push_two Kind.Register s t ts hs h = grind arith

pub push_surplus : (s : Token) (more : List Token) → 0 < length more → is_shaped (kind_by_start s) s ≡ true →
    read_forms (text_forms Word.Push) (s ∷ more) ≡ Err (surplus_push (kind_by_start s))
push_surplus s [] l h = absurd (omega arith)
push_surplus s (t ∷ ts) l h = push_two (kind_by_start s) s t ts refl h

-- arithmetic
alu_three : (k : Kind) (op : AluOp) (d s t : Token) (ts : List Token) → kind_by_start s ≡ k
    → read_forms (text_forms (Word.Alu op)) (d ∷ s ∷ t ∷ ts) ≡ Err (surplus_store k)
unfolding choosing
alu_three Kind.Memory op d s t ts hs = grind arith
alu_three Kind.GsMemory op d s t ts hs = grind arith
alu_three Kind.Number op d s t ts hs = grind arith
alu_three Kind.Word op d s t ts hs = grind arith
alu_three Kind.Register op d s t ts hs = grind arith

pub alu_surplus : (op : AluOp) (d s : Token) (more : List Token) → 0 < length more
    → read_forms (text_forms (Word.Alu op)) (d ∷ s ∷ more) ≡ Err (surplus_store (kind_by_start s))
alu_surplus op d s [] l = absurd (omega arith)
alu_surplus op d s (t ∷ ts) l = alu_three (kind_by_start s) op d s t ts refl

pub alu_none : (op : AluOp) → read_forms (text_forms (Word.Alu op)) [] ≡ Err Cause.Count
unfolding choosing
alu_none op = refl

pub alu_one : (op : AluOp) (d : Token) → read_forms (text_forms (Word.Alu op)) (d ∷ []) ≡ Err Cause.Count
unfolding choosing
alu_one op d = refl

pub mov_none : read_forms (text_forms Word.Mov) [] ≡ Err Cause.Count
unfolding choosing
mov_none = refl

pub mov_register_alone : (d : Token) → kind_by_start d ≡ Kind.Register → read_forms (text_forms Word.Mov) (d ∷ []) ≡ Err Cause.Count
unfolding choosing
mov_register_alone d h = grind arith

pub mov_memory_alone : (d : Token) → kind_by_start d ≡ Kind.Memory → is_shaped Kind.Memory d ≡ true
    → read_forms (text_forms Word.Mov) (d ∷ []) ≡ Err Cause.Count
unfolding choosing
mov_memory_alone d h g = grind arith

pub push_none : read_forms (text_forms Word.Push) [] ≡ Err Cause.Count
unfolding choosing
push_none = refl

pub unshaped_push : (d : Token) (ts : List Token) → is_shaped (kind_by_start d) d ≡ false → read_forms (text_forms Word.Push) (d ∷ ts) ≡ Err Cause.Word
unfolding choosing
unshaped_push d ts h = grind arith

pub register_unshaped : (d s : Token) (ts : List Token) → kind_by_start d ≡ Kind.Register → is_shaped (kind_by_start s) s ≡ false →
    read_forms (text_forms Word.Mov) (d ∷ s ∷ ts) ≡ Err Cause.Word
unfolding choosing
register_unshaped d s ts hd h = grind arith

-- ---- over the tokens that are lent

pub mov_nothing : (xs : List (Bor Token)) → length xs ≡ 0 → Err Cause.Count ≡ read_forms (text_forms Word.Mov) (texts xs)
mov_nothing xs h = rw (nothing xs h) (sym mov_none)

pub push_nothing : (xs : List (Bor Token)) → length xs ≡ 0 → Err Cause.Count ≡ read_forms (text_forms Word.Push) (texts xs)
push_nothing xs h = rw (nothing xs h) (sym push_none)

pub register_nothing : (d : Token) (xs : List (Bor Token)) → length xs ≡ 0 → kind_by_start d ≡ Kind.Register
    → Err Cause.Count ≡ read_forms (text_forms Word.Mov) (d ∷ texts xs)
register_nothing d xs h k = rw (nothing xs h) (sym (mov_register_alone d k))

pub memory_nothing : (d : Token) (xs : List (Bor Token)) → length xs ≡ 0 → kind_by_start d ≡ Kind.Memory → is_shaped Kind.Memory d ≡ true →
    Err Cause.Count ≡ read_forms (text_forms Word.Mov) (d ∷ texts xs)
memory_nothing d xs h k g = rw (nothing xs h) (sym (mov_memory_alone d k g))

pub register_many : (d : Token) (rest : List (Bor Token)) (s : Bor Token) (more : List (Bor Token)) (k : Kind) (e : Cause) → rest ≡ s ∷ more
    → false ≡ (length more == 0) →
    kind_by_start d ≡ Kind.Register → k ≡ kind_by_start s.now → is_shaped k s.now ≡ true → e ≡ surplus_move k
    → Err e ≡ read_forms (text_forms Word.Mov) (d ∷ texts rest)
register_many d rest s more k e is l hd hk h he =
    rw is (ap Err (he ∙ ap surplus_move hk) ∙ sym (register_surplus d s.now (texts more) (some more l) hd (subst (λ j. is_shaped j s.now ≡ true) hk h)))

pub register_bad : (d : Token) (rest : List (Bor Token)) (s : Bor Token) (more : List (Bor Token)) (k : Kind) → rest ≡ s ∷ more →
    kind_by_start d ≡ Kind.Register → k ≡ kind_by_start s.now → is_shaped k s.now ≡ false → Err Cause.Word ≡ read_forms (text_forms Word.Mov) (d ∷ texts rest)
register_bad d rest s more k is hd hk h = rw is (sym (register_unshaped d s.now (texts more) hd (subst (λ j. is_shaped j s.now ≡ false) hk h)))

pub memory_many : (m : Token) (rest : List (Bor Token)) (s : Bor Token) (more : List (Bor Token)) (e : Cause) → rest ≡ s ∷ more → false ≡ (length more == 0) →
    kind_by_start m ≡ Kind.Memory → is_shaped Kind.Memory m ≡ true → e ≡ surplus_store (kind_by_start s.now)
    → Err e ≡ read_forms (text_forms Word.Mov) (m ∷ texts rest)
memory_many m rest s more e is l hm g he = rw is (ap Err he ∙ sym (memory_surplus m s.now (texts more) (some more l) hm g))

pub push_many : (rest : List (Bor Token)) (s : Bor Token) (more : List (Bor Token)) (k : Kind) (e : Cause) → rest ≡ s ∷ more → false ≡ (length more == 0) →
    k ≡ kind_by_start s.now → is_shaped k s.now ≡ true → e ≡ surplus_push k → Err e ≡ read_forms (text_forms Word.Push) (texts rest)
push_many rest s more k e is l hk h he =
    rw is (ap Err (he ∙ ap surplus_push hk) ∙ sym (push_surplus s.now (texts more) (some more l) (subst (λ j. is_shaped j s.now ≡ true) hk h)))

pub push_bad : (rest : List (Bor Token)) (s : Bor Token) (more : List (Bor Token)) (k : Kind) → rest ≡ s ∷ more →
    k ≡ kind_by_start s.now → is_shaped k s.now ≡ false → Err Cause.Word ≡ read_forms (text_forms Word.Push) (texts rest)
push_bad rest s more k is hk h = rw is (sym (unshaped_push s.now (texts more) (subst (λ j. is_shaped j s.now ≡ false) hk h)))

pub alu_nothing : (op : AluOp) (xs : List (Bor Token)) → length xs ≡ 0 → Err Cause.Count ≡ read_forms (text_forms (Word.Alu op)) (texts xs)
alu_nothing op xs h = rw (nothing xs h) (sym (alu_none op))

pub alu_alone : (op : AluOp) (xs : List (Bor Token)) (d : Bor Token) (rest : List (Bor Token)) → xs ≡ d ∷ rest → length rest ≡ 0
    → Err Cause.Count ≡ read_forms (text_forms (Word.Alu op)) (texts xs)
alu_alone op xs d rest is h = rw (is, nothing rest h) (sym (alu_one op d.now))

pub alu_many : (op : AluOp) (xs : List (Bor Token)) (d : Bor Token) (rest : List (Bor Token)) (s : Bor Token) (more : List (Bor Token)) (e : Cause)
    → xs ≡ d ∷ rest → rest ≡ s ∷ more →
    false ≡ (length more == 0) → e ≡ surplus_store (kind_by_start s.now) → Err e ≡ read_forms (text_forms (Word.Alu op)) (texts xs)
alu_many op xs d rest s more e is js l he = rw (is, js) (ap Err he ∙ sym (alu_surplus op d.now s.now (texts more) (some more l)))
