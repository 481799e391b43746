-- An interrupt that comes to a processor: which keys have bodies, and what the local APIC is with one more requested.
use Rattle.std.proofs.Common.{◌≡◌, ℕ, suc, ◌+◌, ◌*◌, ◌/◌, ◌%◌, ◌^◌, ◌<◌, ◌≤◌, Bool, true, false, not, ◌&&◌, ◌||◌, List, [], ◌∷◌, ◌++◌, set, get_or, length, Option, Some, None, refl, ap, sym, ◌∙◌, subst, arith, ne_eqb, ⊎_elim, slice_get}
use Rattle.std.specs.Prelude.{◌==◌, if◌then◌else◌, is_some, nat_lt, nat_le}
use Rattle.std.specs.List.{list_any}
use Rattle.std.proofs.lemmas.Bool.{lt-ltb, ltb-true, and_from, and_parts}
use Rattle.std.proofs.lemmas.Bool.Decides.{eqb_tells}
use Rattle.ev_isa.specs.Word.{put_at}
use Rattle.ev_isa.specs.declared.mode.Mode.{Mode}
use Rattle.ev_body.specs.declared.key.Key.{Key}
use Rattle.ev_body.specs.declared.key.Key.TheVariants.{Irq}
use Rattle.ev_body.specs.declared.key.Side.{Side}
use Rattle.ev_body.specs.declared.key.Side.TheVariants.{User, Kernel, Both}
use Rattle.ev_body.specs.declared.body.Body.{Body}
use Rattle.ev_body.specs.declared.image.Image.{Image}
use Rattle.ev_body.specs.Bodies.{key_number, covers, first_body}
use Rattle.ev_body.specs.WellFormed.{is_sendable}
use Rattle.ev_apic.specs.Apic.{accepted}
use Rattle.ev_apic.specs.Vectors.{with_vector}
use Rattle.ev_apic.specs.declared.apic.Apic.{Apic}
use Rattle.ev_apic.proofs.Bits.{or_bit}
use Rattle.ev_abstract.specs.Machine.{Machine}
use Rattle.ev_abstract.specs.Run.{line_step}
use Rattle.ev_abstract.specs.Script.{has_body_of, is_line}
use Rattle.ev_abstract.specs.declared.script_line.Line.{Line}
use Rattle.ev_abstract.specs.declared.script_line.Line.TheVariants.{Arrive}
use Rattle.ev_listing.specs.AddressMap.{user_table, kernel_table, no_body}
use Rattle.ev_concrete.specs.Opening.{body_address}
use Rattle.ev_concrete.specs.ConcreteRun.{System, marks_of, arrived_at, concrete_line, concrete_run}
use Rattle.ev_built.specs.Built.{line_is_built}
use Rattle.ev_relation.specs.Relation.{InTables}
use Rattle.ev_relation.proofs.UserBody.{user_word_is}
use Rattle.ev_relation.proofs.BodyTables.{kernel_word_is}
use Rattle.ev_refine.proofs.Refine.{arrivals_stand}
use Rattle.ev_core.specs.State.{Parts, Shows, local_of}
use Rattle.ev_core.specs.Run.{MachineView, IsRun, IsStandingAs}
use Rattle.ev_core.specs.declared.local.Local.{Local}
use Rattle.ev_core.proofs.Acts.{put_same, put_other, put_shown}
use Rattle.ev_core.proofs.Parts.{read_local}
use Rattle.ev_core.proofs.Turns.{all_more, line_more}

-- ---- which keys have bodies

-- a word of a table of bodies tells whether there is one
names : (o : Option ℕ) → not (body_address o == no_body) ≡ is_some o
names None = refl
names (Some n) = ap not (ne_eqb (0xffffffff82000000 + 0x20000 * n) no_body (λ e. omega arith))

-- a body of a key is of one side or of the other
of_a_side : (e : Bool) (side : Side) (n : ℕ) (u k : Option ℕ) (rest : Bool) → (is_some u || is_some k) ≡ rest
    → (is_some (if e && covers side User then Some n else u) || is_some (if e && covers side Kernel then Some n else k)) ≡ (e || rest)
unfolding covers
of_a_side false side n u k rest h = h
of_a_side true Both n u k rest h = refl
of_a_side true User n u k rest h = refl
of_a_side true Kernel n None k rest h = refl
of_a_side true Kernel n (Some i) k rest h = refl

some_side : (key n : ℕ) (bs : List Body)
    → (is_some (first_body n bs key User) || is_some (first_body n bs key Kernel)) ≡ list_any (λ (b : Body). key_number b.key == key) bs
some_side key n [] = refl
some_side key n (b ∷ bs) = of_a_side (key_number b.key == key) b.side n _ _ _ (some_side key (suc n) bs)

module _ (mode : Mode) (image : Image) (s : System) (m : Machine) (v : MachineView) (so : IsStandingAs mode image s m v) (key : Key) (k : ℕ)
    (is : k ≡ key_number key) (small : k ≤ 0x100) where
  -- so do the words of both tables
  pub bodies_told : (not (s.memory.words (user_table + 8 * k) == no_body) || not (s.memory.words (kernel_table + 8 * k) == no_body))
      ≡ has_body_of image key
  bodies_told =
      let few = so.can.image_is.count.1 in
      let user = so.stands.fixed (user_table + 8 * k) (InTables (omega arith) (omega arith)) ∙ user_word_is mode image few k (omega arith) in
      let kernel = so.stands.fixed (kernel_table + 8 * k) (InTables (omega arith) (omega arith)) ∙ kernel_word_is mode image few k (omega arith) in
      (λ i. not (user i == no_body) || not (kernel i == no_body))
      ∙ (λ i. names (first_body 0 image.bodies k User) i || names (first_body 0 image.bodies k Kernel) i) ∙ some_side k 0 image.bodies
      ∙ ap (λ n. list_any (λ (b : Body). key_number b.key == n) image.bodies) is

-- what is tested in turn, the first and then the second
pub first_holds : (a b x h : Bool) → x ≡ a → x ≡ true → (a || b) ≡ h → x ≡ h
first_holds true b x h e t told = e ∙ told
first_holds false b x h e t told = absurd (let clash : true ≡ false = sym t ∙ e in cc)

pub second_tells : (a b x y h : Bool) → x ≡ a → x ≡ false → y ≡ b → (a || b) ≡ h → y ≡ h
second_tells false b x y h e t f told = f ∙ told
second_tells true b x y h e t f told = absurd (let clash : false ≡ true = sym t ∙ e in cc)

-- ---- one more requested vector

requests : (a : Apic) (v : ℕ) → v < 256 → accepted a (v / 64) (1 * 2 ^ (v % 64) % 2 ^ 64) ≡ record a { irr = with_vector a.irr v true }
unfolding with_vector
requests a v small = ap (λ w. record a { irr = set a.irr (v / 64) w }) (or_bit (get_or a.irr (v / 64) 0) (v % 64) (omega arith))

module _ (n p k : ℕ) (s : System) (small : k < 256) where
  abbrev more : Apic → Apic
  more a = accepted a (k / 64) (1 * 2 ^ (k % 64) % 2 ^ 64)

  abbrev now : Apic
  now = record (s.apics p) { irr = with_vector (s.apics p).irr k true }

  -- the local APIC of p is all that changes
  own_arrived : (q : ℕ) → put_at (local_of s) p (record (local_of s p) { apic = more (s.apics p) }) q ≡ local_of (arrived_at s p (Irq k)) q
  unfolding key_number
  own_arrived q = ⊎_elim
      (λ e. subst (λ x. put_at (local_of s) p (record (local_of s p) { apic = more (s.apics p) }) x ≡ local_of (arrived_at s p (Irq k)) x) (sym e.1) here)
      (λ e. there e.1) (eqb_tells q p)
    where
      here : put_at (local_of s) p (record (local_of s p) { apic = more (s.apics p) }) p ≡ local_of (arrived_at s p (Irq k)) p
      here = put_same (local_of s) p _ ∙ ap (λ (a : Apic). record (local_of s p) { apic = a }) (requests (s.apics p) k small ∙ sym (put_same s.apics p now))

      there : (q ≡ p → ⊥) → put_at (local_of s) p (record (local_of s p) { apic = more (s.apics p) }) q ≡ local_of (arrived_at s p (Irq k)) q
      there d = put_other (local_of s) p _ q d ∙ ap (λ (a : Apic). record (local_of s q) { apic = a }) (sym (put_other s.apics p now q d))

  -- so the parts show it
  pub arrived_shows : (v : Parts) (l : Local) → Shows n v s → p < length v.cpus → length v.locals ≡ length v.cpus → l ≡ get_or v.locals p l
      → Shows n (record v { locals = set v.locals p (record l { apic = more l.apic }) }) (arrived_at s p (Irq k))
  arrived_shows v l h lt same is =
      let own : l ≡ local_of s p = read_local v v n p s l refl h same lt is in record {
        processors = h.processors;
        cpu = h.cpu;
        own = λ q b. subst (λ (x : Local). slice_get (set v.locals p (record l { apic = more l.apic })) q
            ≡ Some (put_at (local_of s) p (record x { apic = more x.apic }) q)) own
            (put_shown v.locals (local_of s) n p (record l { apic = more l.apic }) (subst (λ i. p < i) (sym same) lt) h.own q b)
            ∙ ap (λ x. Some x) (own_arrived q);
        memory = h.memory;
        totals = h.totals;
      }

-- ---- the machine behind it

-- none but interrupts arrive today
pub only_interrupts : (p : ℕ) (key : Key) → line_is_built (Arrive p key) ≡ true → ((v : ℕ) → key ≡ Irq v → ⊥) → ⊥
unfolding line_is_built
only_interrupts p (Irq v) e other = other v refl
only_interrupts p Key.Sys e other = absurd (cc)
only_interrupts p Key.Db e other = absurd (cc)
only_interrupts p Key.Nmi e other = absurd (cc)
only_interrupts p Key.Bp e other = absurd (cc)
only_interrupts p Key.Ud e other = absurd (cc)
only_interrupts p Key.Ss e other = absurd (cc)
only_interrupts p Key.Gp e other = absurd (cc)
only_interrupts p Key.Pf e other = absurd (cc)
only_interrupts p Key.Ac e other = absurd (cc)

module _ (mode : Mode) (image : Image) (p k : ℕ) (key : Key) (is : key ≡ Irq k) (lt : p < image.processors) (sendable : is_sendable key ≡ true)
    (has : has_body_of image key ≡ true) where
  sent : is_sendable (Irq k) ≡ true
  sent = ap is_sendable (sym is) ∙ sendable

  small : k < 256
  small = ltb-true k 0x100 (and_parts (nat_le 0x20 k) (nat_lt k 0x100) sent).1

  line_there : is_line image (Arrive p (Irq k)) ≡ true
  unfolding is_line
  line_there = and_from (nat_lt p image.processors && is_sendable (Irq k)) (has_body_of image (Irq k))
      (and_from (nat_lt p image.processors) (is_sendable (Irq k)) (lt-ltb p image.processors lt) sent) (ap (has_body_of image) (sym is) ∙ has)

  line_built : line_is_built (Arrive p (Irq k)) ≡ true
  unfolding line_is_built
  line_built = refl

  line_is : (s : System) → (concrete_line (marks_of mode image) image.processors s (Arrive p (Irq k))).0 ≡ arrived_at s p (Irq k)
  unfolding concrete_line
  line_is s = refl

  -- it stands for the abstract machine to which the interrupt came
  pub arrived_stands : (s : System) (m : Machine) (v : MachineView) → IsStandingAs mode image s m v → (w : Parts)
      → Shows image.processors w (arrived_at s p (Irq k))
      → IsStandingAs mode image (arrived_at s p key) (line_step image m (Arrive p key)).0 (record { parts = w; places = v.places })
  arrived_stands s m v so w shows = subst
      (λ x. IsStandingAs mode image (arrived_at s p x) (line_step image m (Arrive p x)).0 (record { parts = w; places = v.places })) (sym is) (record {
        can = so.can;
        at = record { marks = so.at.marks; shows = shows };
        left = so.left;
        stands = arrivals_stand mode image so.can.built so.can.image_is so.left s m so.stands p k lt small line_there;
      })

  -- and is the run of one line more
  pub arrived_run : (script : List Line) (v : MachineView) → IsRun mode image script v → (w : Parts)
      → Shows image.processors w (arrived_at (concrete_run mode image script).0 p (Irq k))
      → IsRun mode image (script ++ Arrive p key ∷ []) (record { parts = w; places = v.places })
  arrived_run script v r w shows = subst
      (λ x. IsRun mode image (script ++ Arrive p x ∷ []) (record { parts = w; places = v.places })) (sym is) (record {
        can = r.can;
        script_is = all_more (is_line image) script (Arrive p (Irq k)) r.script_is line_there;
        lines_built = all_more line_is_built script (Arrive p (Irq k)) r.lines_built line_built;
        at = record {
          marks = r.at.marks;
          shows = subst (λ s. Shows image.processors w s)
              (sym (line_more (marks_of mode image) image.processors _ script (Arrive p (Irq k)) ∙ line_is (concrete_run mode image script).0)) shows;
        };
      })
