-- What a chain of contexts says: of the processor to which its last one returns, of how many they are, and of their kinds.
use Rattle.std.proofs.Common.{◌≡◌, ℕ, ◌+◌, Bool, true, false, List, [], ◌∷◌, drop, length, Option, refl, ap, ◌∙◌}
use Rattle.ev_isa.specs.declared.mode.Mode.{Mode}
use Rattle.ev_isa.specs.declared.mode.Mode.TheVariants.{Idt, Fred}
use Rattle.ev_body.specs.declared.image.Image.{Image}
use Rattle.ev_effect.specs.Task.{Task}
use Rattle.ev_state.specs.Processor.{Processor, interrupts_on}
use Rattle.ev_mem.specs.Memory.{Memory}
use Rattle.ev_abstract.specs.Context.{BodyContext}
use Rattle.ev_concrete.specs.ConcreteRun.{Activation}
use Rattle.ev_concrete.specs.Opening.{opening_cpu}
use Rattle.ev_proc.specs.ProcessorStep.{has_fred}
use Rattle.ev_listing.specs.AddressMap.{pcpu, idt_base}
use Rattle.ev_symbolic.specs.State.{Block}
use Rattle.ev_isa.specs.Flags.{Flags, flags_word, flags_of}
use Rattle.ev_symbolic.specs.Value.{F, FVar, FOp}
use Rattle.ev_symbolic.proofs.FlagBits.{flags_back}
use Rattle.ev_symbolic.specs.Agrees.{Env, Code, eval_flags, untracked, At}
use Rattle.ev_blocks.specs.Blocks.{block}
use Rattle.ev_table.specs.Table.{code_table}
use Rattle.ev_activation.specs.Seat.{Kind, Seat, kind_of}
use Rattle.ev_relation.specs.Nmi.{Frame}
use Rattle.ev_relation.specs.Filling.{Filling, first_fill, rest_fills}
use Rattle.ev_relation.specs.Active.{rest_in, Active}
use Rattle.ev_relation.specs.Relation.{body_edges, keeps_cr2, chained, Chain}
use Rattle.ev_user.specs.Tasks.{RunsTask}
use Rattle.ev_relation.proofs.ModeFacts.{is_fred}
use Rattle.ev_relation.proofs.CallKinds.{is_plain_kind, over_any, means_plain, ArePlain, plain_level}

-- ---- IF of a processor

pub word_interrupts : (c : Processor) (f : Flags) → c.flags ≡ flags_word f → interrupts_on c ≡ f.interrupts
word_interrupts c f is = ap (λ n. (flags_of n).interrupts) is ∙ ap (λ (g : Flags). g.interrupts) (flags_back f)

-- no block changes it
keeps_interrupts : (e : Env) (f : F) → (eval_flags e f).interrupts ≡ e.flags.interrupts
unfolding eval_flags
keeps_interrupts e FVar = refl
keeps_interrupts e (FOp o a b) = refl

pub at_interrupts : (code : Code) (b : Block) (k : ℕ) (e : Env) (c : Processor) (m : Memory) → At code b k e c m → interrupts_on c ≡ e.flags.interrupts
at_interrupts code b k e c m at = word_interrupts c (eval_flags e at.state.flags) at.agrees.flags ∙ keeps_interrupts e at.state.flags

module _ (mode : Mode) (image : Image) where
  -- What no activation that is no NMI's changes of the processor: whether FRED is on, where the tables stand, the stack level, and the registers that say how
  -- events are delivered.
  pub record Kept (p : ℕ) (c : Processor) : Type 0 where
    pub fred : has_fred c ≡ is_fred mode
    pub idt : c.idt ≡ idt_base
    pub tss : c.tss ≡ pcpu p + 0x404
    pub level : c.level ≡ 0
    pub config : c.msrs.config ≡ 0xffffffff81000040
    pub levels : c.msrs.stklvls ≡ 0x30020
    pub stacks : length (drop 1 c.msrs.rsp) ≡ 3

  mode_fred : (mode : Mode) → has_fred (opening_cpu mode image 0) ≡ is_fred mode
  mode_fred Fred = refl
  mode_fred Idt = refl

  pub task_kept : (p r : ℕ) (t : Task) (c : Processor) → RunsTask mode image p r t c → Kept p c
  task_kept p r t c h = record {
    fred = ap has_fred h.is ∙ mode_fred mode;
    idt = ap (λ (c : Processor). c.idt) h.is;
    tss = ap (λ (c : Processor). c.tss) h.is;
    level = ap (λ (c : Processor). c.level) h.is;
    config = ap (λ (c : Processor). c.msrs.config) h.is;
    levels = ap (λ (c : Processor). c.msrs.stklvls) h.is;
    stacks = ap (λ (c : Processor). length (drop 1 c.msrs.rsp)) h.is;
  }

  pub chain_kept : (p left r to : ℕ) (t : Task) (f : Frame) (sw : Bool) (fs : List (Option Filling)) (bs : List BodyContext) (as' : List Activation)
      (c : Processor) (m : Memory)
      → Chain mode image p left r to t f sw fs bs as' c m → Kept p c
  chain_kept p left r to t f sw fs [] as' c m h = task_kept p to t c h.0
  chain_kept p left r to t f sw fs (b ∷ below) [] c m h = absurd h
  chain_kept p left r to t f sw fs (b ∷ below) (a ∷ as') c m h =
      let k : Kept p h.0 = chain_kept p (body_edges mode image) r to t f (chained mode image sw below) (rest_fills fs) below as' h.0 m
      (over_any mode image (λ v. Chain mode image p (body_edges mode image) r to t f (chained mode image sw below) (rest_fills fs) below as' v m)
      (keeps_cr2 mode image (kind_of image b below)) h.0 h.4) in
      kept_by p (kind_of image b below) (means_plain mode image (kind_of image b below) h.6.stands.spot _ h.0 b
      (first_fill fs) m.words h.6.means) h.6.stands.ss h.0 c
      h.6.stands.at.agrees.rest k
    where
      kept_by : (p : ℕ) (κ : Kind) → is_plain_kind κ ≡ true → (ss : ℕ) (w c : Processor) → untracked c ≡ rest_in mode κ ss w → Kept p w → Kept p c
      kept_by p κ plain ss w c same k = record {
        fred = ap has_fred same ∙ k.fred;
        idt = ap (λ (c : Processor). c.idt) same ∙ k.idt;
        tss = ap (λ (c : Processor). c.tss) same ∙ k.tss;
        level = ap (λ (c : Processor). c.level) same ∙ plain_level mode κ w plain ∙ k.level;
        config = ap (λ (c : Processor). c.msrs.config) same ∙ k.config;
        levels = ap (λ (c : Processor). c.msrs.stklvls) same ∙ k.levels;
        stacks = ap (λ (c : Processor). length c.msrs.rsp) same ∙ k.stacks;
      }

  -- none is an NMI's
  pub chain_plain : (p left r to : ℕ) (t : Task) (f : Frame) (sw : Bool) (fs : List (Option Filling)) (bs : List BodyContext) (as' : List Activation)
      (c : Processor) (m : Memory)
      → Chain mode image p left r to t f sw fs bs as' c m → ArePlain image bs
  chain_plain p left r to t f sw fs [] as' c m h = tt
  chain_plain p left r to t f sw fs (b ∷ below) [] c m h = absurd h
  chain_plain p left r to t f sw fs (b ∷ below) (a ∷ as') c m h = (
    means_plain mode image (kind_of image b below) h.6.stands.spot _ h.0 b (first_fill fs) m.words h.6.means,
    chain_plain p (body_edges mode image) r to t f (chained mode image sw below) (rest_fills fs) below as' h.0 m
        (over_any mode image (λ v. Chain mode image p (body_edges mode image) r to t f (chained mode image sw below) (rest_fills fs) below as' v m)
        (keeps_cr2 mode image (kind_of image b below)) h.0 h.4),
  )

  -- ---- an activation runs with IF as its context has it

  pub active_masked : (p left : ℕ) (κ : Kind) (σ : Seat) (f : Frame) (sw : Bool) (g : Option Filling) (w : Processor) (b : BodyContext) (c : Processor)
      (m : Memory)
      → Active mode image p left κ σ f sw g w b c m → interrupts_on c ≡ b.interrupts
  active_masked p left κ σ f sw g w b c m a = at_interrupts (code_table mode image) (block mode a.stands.spot) a.stands.k _ c m a.stands.at ∙ a.stands.masked

  pub chain_masked : (p left r to : ℕ) (t : Task) (f : Frame) (sw : Bool) (fs : List (Option Filling)) (b : BodyContext) (below : List BodyContext)
      (as' : List Activation) (c : Processor)
      (m : Memory) → Chain mode image p left r to t f sw fs (b ∷ below) as' c m → interrupts_on c ≡ b.interrupts
  chain_masked p left r to t f sw fs b below [] c m h = absurd h
  chain_masked p left r to t f sw fs b below (a ∷ as') c m h = active_masked p left _ _ f _ (first_fill fs) h.0 b c m h.6

  -- ---- a chain says nothing of the blocking of NMIs, which the relation does

  pub at_open : (b : Block) (k : ℕ) (e : Env) (c : Processor) (m : Memory) → At (code_table mode image) b k e c m
      → At (code_table mode image) b k e (record c { nmi_blocked = false }) m
  at_open b k e c m a = record {
    fits = a.fits;
    state = a.state;
    is = a.is;
    agrees = record {
      regs = a.agrees.regs;
      rip = a.agrees.rip;
      flags = a.agrees.flags;
      gs = a.agrees.gs;
      kernel_gs = a.agrees.kernel_gs;
      selector = a.agrees.selector;
      cr2 = a.agrees.cr2;
      levels = a.agrees.levels;
      blocked = a.agrees.blocked;
      rest = a.agrees.rest;
      words = a.agrees.words;
      known_open = a.agrees.known_open;
      shared_open = a.agrees.shared_open;
    };
  }

  pub chain_open : (p left r to : ℕ) (t : Task) (f : Frame) (sw : Bool) (fs : List (Option Filling)) (bs : List BodyContext) (as' : List Activation)
      (c : Processor) (m : Memory)
      → Chain mode image p left r to t f sw fs bs as' c m → Chain mode image p left r to t f sw fs bs as' (record c { nmi_blocked = false }) m
  chain_open p left r to t f sw fs [] as' c m h =
      (record { is = ap (λ (y : Processor). record y { nmi_blocked = false }) h.0.is; task = h.0.task }, h.1, h.2, h.3)
  chain_open p left r to t f sw fs (b ∷ below) [] c m h = h
  chain_open p left r to t f sw fs (b ∷ below) (a ∷ as') c m h = (
    h.0,
    h.1,
    h.2,
    h.3,
    h.4,
    h.5,
    record {
      stands = record {
        spot = h.6.stands.spot;
        k = h.6.stands.k;
        extra = h.6.stands.extra;
        var = h.6.stands.var;
        flags = h.6.stands.flags;
        ss = h.6.stands.ss;
        ss_is = h.6.stands.ss_is;
        masked = h.6.stands.masked;
        within = h.6.stands.within;
        enough = h.6.stands.enough;
        at = at_open (block mode h.6.stands.spot) h.6.stands.k _ c m h.6.stands.at;
        long = h.6.stands.long;
      };
      switches = h.6.switches;
      fills = h.6.fills;
      knows = h.6.knows;
      means = h.6.means;
    },
  )
