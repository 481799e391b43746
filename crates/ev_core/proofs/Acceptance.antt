-- Mail that a processor accepts: what the parts show behind it; and when none waits.
use Rattle.std.proofs.Common.{◌≡◌, ℕ, ◌+◌, ◌*◌, ◌/◌, ◌%◌, ◌^◌, ◌<◌, true, false, ◌||◌, List, [], ◌∷◌, ◌++◌, set, get_or, length, Some, refl, ap, sym, ◌∙◌, subst, arith, ⊎_elim, slice_get}
use Rattle.std.specs.Int.{bit_at}
use Rattle.std.proofs.lemmas.Bool.{lt-ltb, eqb-false}
use Rattle.std.proofs.lemmas.Nat.Bits.{bit_at-zero, bit_at-lt, same_from_bits_below}
use Rattle.std.proofs.lemmas.Bool.Decides.{eqb_tells}
use Rattle.ev_isa.specs.Word.{put_at, bit}
use Rattle.ev_isa.specs.declared.mode.Mode.{Mode}
use Rattle.ev_body.specs.declared.image.Image.{Image}
use Rattle.ev_apic.specs.Inbox.{no_mail, with_mail}
use Rattle.ev_apic.specs.Vectors.{vectors_of}
use Rattle.ev_apic.specs.declared.inbox.Inbox.{Inbox}
use Rattle.ev_abstract.specs.Machine.{Machine, processor}
use Rattle.ev_abstract.specs.Run.{line_step}
use Rattle.ev_abstract.specs.Script.{is_line}
use Rattle.ev_abstract.specs.declared.script_line.Line.{Line}
use Rattle.ev_abstract.specs.declared.script_line.Line.TheVariants.{Accept}
use Rattle.ev_concrete.specs.ConcreteRun.{System, marks_of, accept_mail, concrete_line, concrete_run}
use Rattle.ev_concrete.specs.Depth.{bodies_on}
use Rattle.ev_built.specs.Built.{line_is_built}
use Rattle.ev_relation.specs.Relation.{InboxIs}
use Rattle.ev_relation.proofs.NoVectors.{no_vector}
use Rattle.ev_refine.proofs.Refine.{acceptances_stand}
use Rattle.ev_core.specs.Local.{accepted}
use Rattle.ev_core.specs.Mail.{HasNoMail}
use Rattle.ev_core.specs.State.{Parts, Shows, local_of}
use Rattle.ev_core.specs.Run.{MachineView, IsRun, IsStandingAs}
use Rattle.ev_core.specs.declared.local.Local.{Local}
use Rattle.ev_core.proofs.Acts.{put_same, put_other, put_shown}
use Rattle.ev_core.proofs.Parts.{read_local}
use Rattle.ev_core.proofs.Turns.{all_more, line_more}

-- ---- the parts

module _ (n p : ℕ) (s : System) where
  -- what belongs to p is all that changes
  own_accepted : (q : ℕ) → put_at (local_of s) p (accepted (local_of s p)) q ≡ local_of (accept_mail s p) q
  own_accepted q = ⊎_elim (λ e. subst (λ x. put_at (local_of s) p (accepted (local_of s p)) x ≡ local_of (accept_mail s p) x) (sym e.1) here)
      (λ e. there e.1) (eqb_tells q p)
    where
      here : put_at (local_of s) p (accepted (local_of s p)) p ≡ local_of (accept_mail s p) p
      here = put_same (local_of s) p _
          ∙ (λ i. record {
            apic = sym (put_same s.apics p (with_mail (s.apics p) (s.inboxes p))) i;
            latch = sym (put_same s.latches p (s.latches p || (s.inboxes p).nmi)) i;
            inbox = sym (put_same s.inboxes p no_mail) i;
            depth = bodies_on s p;
          })

      there : (q ≡ p → ⊥) → put_at (local_of s) p (accepted (local_of s p)) q ≡ local_of (accept_mail s p) q
      there d = put_other (local_of s) p _ q d
          ∙ (λ i. record {
            apic = sym (put_other s.apics p (with_mail (s.apics p) (s.inboxes p)) q d) i;
            latch = sym (put_other s.latches p (s.latches p || (s.inboxes p).nmi) q d) i;
            inbox = sym (put_other s.inboxes p no_mail q d) i;
            depth = bodies_on s q;
          })

  -- so the parts show it
  pub accepted_shows : (v : Parts) (l : Local) → Shows n v s → p < length v.cpus → length v.locals ≡ length v.cpus → l ≡ get_or v.locals p l
      → Shows n (record v { locals = set v.locals p (accepted l) }) (accept_mail s p)
  accepted_shows v l h lt same is =
      let own : l ≡ local_of s p = read_local v v n p s l refl h same lt is in record {
        processors = h.processors;
        cpu = h.cpu;
        own = λ q b. subst (λ (x : Local). slice_get (set v.locals p (accepted l)) q ≡ Some (put_at (local_of s) p (accepted x) q)) own
            (put_shown v.locals (local_of s) n p (accepted l) (subst (λ i. p < i) (sym same) lt) h.own q b)
            ∙ ap (λ x. Some x) (own_accepted q);
        memory = h.memory;
        totals = h.totals;
      }

-- ---- the machine behind it

module _ (mode : Mode) (image : Image) (p : ℕ) (lt : p < image.processors) where
  line_there : is_line image (Accept p) ≡ true
  unfolding is_line
  line_there = lt-ltb p image.processors lt

  line_built : line_is_built (Accept p) ≡ true
  unfolding line_is_built
  line_built = refl

  line_is : (s : System) → (concrete_line (marks_of mode image) image.processors s (Accept p)).0 ≡ accept_mail s p
  unfolding concrete_line
  line_is s = refl

  -- it stands for the abstract machine that accepted its mail
  pub accepted_stands : (s : System) (m : Machine) (v : MachineView) → IsStandingAs mode image s m v → (w : Parts)
      → Shows image.processors w (accept_mail s p)
      → IsStandingAs mode image (accept_mail s p) (line_step image m (Accept p)).0 (record { parts = w; places = v.places })
  accepted_stands s m v so w shows = record {
    can = so.can;
    at = record { marks = so.at.marks; shows = shows };
    left = so.left;
    stands = acceptances_stand mode image so.can.built so.can.image_is so.left s m so.stands p lt line_there;
  }

  -- and is the run of one line more
  pub accepted_run : (script : List Line) (v : MachineView) → IsRun mode image script v → (w : Parts)
      → Shows image.processors w (accept_mail (concrete_run mode image script).0 p)
      → IsRun mode image (script ++ Accept p ∷ []) (record { parts = w; places = v.places })
  accepted_run script v r w shows = record {
    can = r.can;
    script_is = all_more (is_line image) script (Accept p) r.script_is line_there;
    lines_built = all_more line_is_built script (Accept p) r.lines_built line_built;
    at = record {
      marks = r.at.marks;
      shows = subst (λ s. Shows image.processors w s)
          (sym (line_more (marks_of mode image) image.processors _ script (Accept p) ∙ line_is (concrete_run mode image script).0)) shows;
    };
  }

-- ---- when no mail waits

-- a word with no bit is 0
zero_word : (n : ℕ) → n < 2 ^ 64 → ((k : ℕ) → k < 64 → bit k n ≡ false) → n ≡ 0
zero_word n small none = same_from_bits_below 64 n 0 small (omega arith) (λ k l.
    (let d = eqb-false (bit_at n k) 1 (none k l) in let two = bit_at-lt n k in let z : bit_at n k ≡ 0 = omega arith in z) ∙ sym (bit_at-zero k))

-- so are the words of no vector
zero_at : (ws : List ℕ) → ((i : ℕ) → get_or ws i 0 < 2 ^ 64) → ((v : ℕ) → v < 256 → vectors_of ws v ≡ false) → (i : ℕ) → i < 4 → get_or ws i 0 ≡ 0
zero_at ws small none i l = zero_word (get_or ws i 0) (small i) (λ k b.
    sym (λ j. bit ((let z : (64 * i + k) % 64 ≡ k = omega arith in z) j) (get_or ws ((let z : (64 * i + k) / 64 ≡ i = omega arith in z) j) 0))
    ∙ none (64 * i + k) (omega arith))

zero_words : (ws : List ℕ) → length ws ≡ 4 → ((i : ℕ) → i < 4 → get_or ws i 0 ≡ 0) → ws ≡ no_mail.vectors
zero_words [] e h = absurd (omega arith)
zero_words (a ∷ []) e h = absurd (omega arith)
zero_words (a ∷ b ∷ []) e h = absurd (omega arith)
zero_words (a ∷ b ∷ c ∷ []) e h = absurd (omega arith)
zero_words (a ∷ b ∷ c ∷ d ∷ []) e h = λ i. h 0 (omega arith) i ∷ h 1 (omega arith) i ∷ h 2 (omega arith) i ∷ h 3 (omega arith) i ∷ []
zero_words (a ∷ b ∷ c ∷ d ∷ x ∷ xs) e h = absurd (omega arith)

module _ (mode : Mode) (image : Image) (s : System) (m : Machine) (v : MachineView) (so : IsStandingAs mode image s m v) (p : ℕ) (lt : p < image.processors)
    (l : Local) (own : l ≡ local_of s p) where
  mail : InboxIs mode image (s.inboxes p) (processor m p).mail (processor m p).mail_nmi
  mail = so.stands.shares.mail p lt

  inbox : l.inbox ≡ s.inboxes p
  inbox = ap (λ (x : Local). x.inbox) own

  pub none_waits : l.inbox ≡ no_mail → HasNoMail (processor m p)
  none_waits e = record {
    vectors = λ v b. sym (mail.vectors v b) ∙ ap (λ (i : Inbox). vectors_of i.vectors v) (sym inbox ∙ e) ∙ no_vector v;
    nmi = sym mail.nmi_is ∙ ap (λ (i : Inbox). i.nmi) (sym inbox ∙ e);
  }

  pub is_no_mail : HasNoMail (processor m p) → l.inbox ≡ no_mail
  is_no_mail h =
      let words = zero_words (s.inboxes p).vectors mail.words.four
      (zero_at (s.inboxes p).vectors mail.words.small (λ v b. mail.vectors v b ∙ h.vectors v b)) in
      let nmi = mail.nmi_is ∙ h.nmi in inbox ∙ (λ i. record { vectors = words i; nmi = nmi i })
