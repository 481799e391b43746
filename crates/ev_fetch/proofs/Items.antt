-- The statements of an item have spellings, where its operands and numbers are in range and its labels are in the code.
use Rattle.std.proofs.Common.{◌≡◌, ℕ, ◌+◌, ◌^◌, ◌<◌, ◌≤◌, Bool, true, false, not, ◌&&◌, refl, arith}
use Rattle.std.specs.Prelude.{nat_lt, nat_le, ◌==◌, if◌then◌else◌, codes}
use Rattle.std.proofs.lemmas.Bool.{ltb-true, leb-true}
use Rattle.ev_isa.specs.declared.mode.Mode.{Mode}
use Rattle.ev_isa.specs.declared.instruction.Ins.{Ins}
use Rattle.ev_isa.specs.Instruction.{is_instruction}
use Rattle.ev_body.specs.declared.key.Key.{Key}
use Rattle.ev_body.specs.declared.key.Key.TheVariants.{Sys, Db, Nmi, Ud, Ss, Gp, Pf, Ac, Irq}
use Rattle.ev_body.specs.declared.item.Item.{Item}
use Rattle.ev_body.specs.declared.item.Item.TheVariants.{Set, Copy, Alu, Jcc, Goto, Nop, Log, Cpu, Slot, Put, Cell, SetCell, AddCell, SwapCell, Uget, Uput, GetReg, SetReg, SetRip, Map, Unmap, Resched, Sti, Cli, Eoi, Send, Call, Kick, Wait, Take, Finish, Ret}
use Rattle.ev_body.specs.Bodies.{key_number}
use Rattle.ev_body.specs.WellFormed.{is_local, is_word, is_sendable, is_body_cond, has_operands, is_finish}
use Rattle.ev_abstract.specs.Rules.{breaks_slots}
use Rattle.ev_asm.specs.Assembly.{Name, Places, place}
use Rattle.ev_listing.specs.Expansion.{expansion, saved_offset, command, item_label, own_label, taken_label, exit_of}
use Rattle.ev_code.specs.Coding.{IsEncodable}
use Rattle.ev_symbolic.proofs.Values.{and_right}
use Rattle.ev_fetch.proofs.Regions.{Each}
use Rattle.ev_fetch.proofs.Encodes.{and_parts, encodes, encodable}
use Rattle.ev_fetch.proofs.Labels.{InCode, Gives, gives_at, IsSpelledWith}

small : (d : ℕ) → is_local d ≡ true → d < 16
small d h = let lt = ltb-true d 14 (and_right (nat_le 6 d) _ h) in omega arith

pub kept : (t : Bool) → not t ≡ false → t ≡ true
kept true h = refl
kept false h = absurd (cc)

-- an instruction without variables
ok : {i : Ins} → encodes i ≡ true → IsEncodable i
ok {i} h = encodable i h

if_small : (t : Bool) (x y : ℕ) → x < 0x100 → y < 0x100 → (if t then x else y) < 0x100
if_small true x y h k = h
if_small false x y h k = k

saved_small : (r : ℕ) → saved_offset r < 0x100
unfolding saved_offset
saved_small r =
    if_small (r == 0) _ _ (omega arith)
    (if_small (r == 1) _ _ (omega arith) (if_small (r == 2) _ _ (omega arith) (if_small (r == 3) _ _ (omega arith) (if_small (r == 4) _ _ (omega arith)
    (if_small (r == 5) _ _ (omega arith) (if_small (r == 6) _ _ (omega arith) (if_small (r == 7) _ _ (omega arith) (omega arith))))))))

command_word : (key : Key) → is_sendable key ≡ true → command key < 2 ^ 64
unfolding key_number
command_word Nmi h = omega arith
command_word (Irq v) h = let lt = ltb-true v 0x100 (and_right (nat_le 0x20 v) _ h) in omega arith
command_word Sys h = omega arith
command_word Db h = omega arith
command_word Key.Bp h = omega arith
command_word Ud h = omega arith
command_word Ss h = omega arith
command_word Gp h = omega arith
command_word Pf h = omega arith
command_word Ac h = omega arith

module _ (mode : Mode) (b : ℕ) (key : Key) (function : ℕ → ℕ) (n : ℕ) (env : Places) (bytes low high total p : ℕ) (short : bytes ≤ 65520) (few : p ≤ 8)
    (in_body : high ≤ total)
    (addresses : (f : ℕ) → function f < 2 ^ 64) (target : (i : ℕ) → i < total → InCode (place env (item_label b i)))
    (exit : InCode (place env (exit_of mode key))) where
  pub item_spelled : (item : Item) → has_operands bytes low high item ≡ true → breaks_slots p item ≡ false
      → (is_finish item ≡ true → InCode (place env (taken_label b)))
      → ((name : Name) → Gives name (expansion mode b key function n item) → InCode (place env name))
      → Each (λ l. IsSpelledWith env l.stmt) (expansion mode b key function n item)
  unfolding expansion has_operands breaks_slots is_finish is_instruction
  item_spelled (Set d v) h z taken own = let k = and_parts (is_local d) (is_word v) h in let d_small = small d k.0 in let v_word =
      ltb-true v (2 ^ 64) k.1 in (record { fields = (omega arith, omega arith); counts = refl }, tt)
  item_spelled (Copy d s) h z taken own = let k = and_parts (is_local d) (is_local s) h in let d_small = small d k.0 in let s_small = small s k.1 in
      (record { fields = (omega arith, omega arith); counts = refl }, tt)
  item_spelled (Alu o d s) h z taken own = let k = and_parts (is_local d) (is_local s) h in let d_small = small d k.0 in let s_small = small s k.1 in
      (record { fields = (omega arith, omega arith); counts = refl }, tt)
  item_spelled (Jcc c i) h z taken own = let i_high = ltb-true i high (and_parts (is_body_cond c && nat_le low i) (nat_lt i high) h).1 in
      (target i (omega arith), tt)
  item_spelled (Goto i) h z taken own = let i_high = ltb-true i high (and_parts (nat_le low i) (nat_lt i high) h).1 in (target i (omega arith), tt)
  item_spelled Nop h z taken own = (ok refl, tt)
  item_spelled (Log s) h z taken own = let s_small = small s h in (record { fields = (record { sfits = omega arith }, omega arith); counts = refl }, tt)
  item_spelled (Cpu d) h z taken own = let d_small = small d h in (record { fields = (omega arith, record { sfits = omega arith }); counts = refl }, tt)
  item_spelled (Slot d k) h z taken own = let l = and_parts (is_local d) (is_word k) h in let d_small = small d l.0 in let k_few =
      ltb-true k 64 (kept (nat_lt k 64) z) in (record { fields = (omega arith, record { sfits = omega arith }); counts = refl }, tt)
  item_spelled (Put k s) h z taken own = let l = and_parts (is_word k) (is_local s) h in let s_small = small s l.1 in let k_few =
      ltb-true k 64 (kept (nat_lt k 64) z) in (record { fields = (record { sfits = omega arith }, omega arith); counts = refl }, tt)
  item_spelled (Cell d k) h z taken own = let l = and_parts (is_local d) (is_word k) h in let d_small = small d l.0 in let k_few =
      ltb-true k 256 (kept (nat_lt k 256) z) in (
        record { fields = (omega arith, omega arith); counts = refl },
        (record { fields = (omega arith, omega arith, record { sfits = omega arith }); counts = refl }, tt),
      )
  item_spelled (SetCell k s) h z taken own = let l = and_parts (is_word k) (is_local s) h in let s_small = small s l.1 in let k_few =
      ltb-true k 256 (kept (nat_lt k 256) z) in (
        record { fields = (omega arith, omega arith); counts = refl },
        (record { fields = (omega arith, record { sfits = omega arith }, omega arith); counts = refl }, tt),
      )
  item_spelled (AddCell k d) h z taken own = let l = and_parts (is_word k) (is_local d) h in let d_small = small d l.1 in let k_few =
      ltb-true k 256 (kept (nat_lt k 256) z) in (
        record { fields = (omega arith, omega arith); counts = refl },
        (record { fields = (omega arith, record { sfits = omega arith }, omega arith); counts = refl }, tt),
      )
  item_spelled (SwapCell k d) h z taken own = let l = and_parts (is_word k) (is_local d) h in let d_small = small d l.1 in let k_few =
      ltb-true k 256 (kept (nat_lt k 256) z) in (
        record { fields = (omega arith, omega arith); counts = refl },
        (record { fields = (omega arith, record { sfits = omega arith }, omega arith); counts = refl }, tt),
      )
  item_spelled (Uget d s) h z taken own = let k = and_parts (is_local d) (is_local s) h in let d_small = small d k.0 in let s_small = small s k.1 in (
    record { fields = (omega arith, omega arith); counts = refl },
    (ok refl, (ok refl, (record { fields = (omega arith, omega arith, record { sfits = omega arith }); counts = refl }, tt))),
  )
  item_spelled (Uput s t) h z taken own = let k = and_parts (is_local s) (is_local t) h in let s_small = small s k.0 in let t_small = small t k.1 in (
    record { fields = (omega arith, omega arith); counts = refl },
    (ok refl, (ok refl, (record { fields = (omega arith, record { sfits = omega arith }, omega arith); counts = refl }, tt))),
  )
  item_spelled (GetReg d r) h z taken own = let k = and_parts (is_local d) (nat_lt r 16) h in let d_small = small d k.0 in let r_saved = saved_small r in
      (record { fields = (omega arith, omega arith, record { sfits = omega arith }); counts = refl }, tt)
  item_spelled (SetReg r s) h z taken own = let k = and_parts (nat_lt r 16) (is_local s) h in let s_small = small s k.1 in let r_saved = saved_small r in
      (record { fields = (omega arith, record { sfits = omega arith }, omega arith); counts = refl }, tt)
  item_spelled (SetRip a) h z taken own = let k = and_parts (nat_le 0x400000 a) (nat_le a (0x400000 + bytes)) h in let a_text =
      leb-true a (0x400000 + bytes) k.1 in (record { fields = (omega arith, omega arith); counts = refl }, (ok refl, tt))
  item_spelled (Map s) h z taken own = let s_small = small s h in (
    record { fields = (omega arith, omega arith); counts = refl },
    (
      ok refl,
      (
        ok refl,
        (
          ok refl,
          (
            ok refl,
            (
              own (own_label b n (codes "M1")) (gives_at (own_label b n (codes "M1")) (expansion mode b key function n (Map s)) 7 _ refl refl),
              (ok refl, (tt, (ok refl, (ok refl, (ok refl, (ok refl, tt)))))),
            ),
          ),
        ),
      ),
    ),
  )
  item_spelled (Unmap s) h z taken own = let s_small = small s h in (
    record { fields = (omega arith, omega arith); counts = refl },
    (
      ok refl,
      (
        ok refl,
        (
          ok refl,
          (
            ok refl,
            (
              own (own_label b n (codes "M1")) (gives_at (own_label b n (codes "M1")) (expansion mode b key function n (Unmap s)) 7 _ refl refl),
              (ok refl, (tt, (ok refl, (ok refl, (ok refl, (ok refl, tt)))))),
            ),
          ),
        ),
      ),
    ),
  )
  item_spelled Resched h z taken own = (ok refl, (ok refl, tt))
  item_spelled Sti h z taken own = (ok refl, (ok refl, tt))
  item_spelled Cli h z taken own = (ok refl, tt)
  item_spelled Eoi h z taken own = (ok refl, (ok refl, (ok refl, (ok refl, tt))))
  item_spelled (Send to k) h z taken own = let l = and_parts (is_word to) (is_sendable k) h in let command_small = command_word k l.1 in let to_word =
      ltb-true to (2 ^ 64) l.0 in (
        ok refl,
        (
          record { fields = (omega arith, omega arith); counts = refl },
          (record { fields = (omega arith, omega arith); counts = refl }, (ok refl, tt)),
        ),
      )
  item_spelled Item.Bp h z taken own = (ok refl, tt)
  item_spelled (Kick to s) h z taken own = let l = and_parts (is_word to) (is_local s) h in let s_small = small s l.1 in let to_word =
      ltb-true to (2 ^ 64) l.0 in (
        record { fields = (omega arith, record { sfits = omega arith }); counts = refl },
        (
          own (own_label b n (codes "K1")) (gives_at (own_label b n (codes "K1")) (expansion mode b key function n (Kick to s)) 7 _ refl refl),
          (
            ok refl,
            (
              ok refl,
              (
                record { fields = (omega arith, omega arith); counts = refl },
                (
                  ok refl,
                  (
                    own (own_label b n (codes "K2")) (gives_at (own_label b n (codes "K2")) (expansion mode b key function n (Kick to s)) 9 _ refl refl),
                    (tt, (ok refl, (tt, tt))),
                  ),
                ),
              ),
            ),
          ),
        ),
      )
  item_spelled (Wait site) h z taken own = let site_few = ltb-true site 8 (kept (nat_lt site 8) z) in (
    tt,
    (
      ok refl,
      (
        record { fields = (omega arith, record { sfits = omega arith }); counts = refl },
        (
          ok refl,
          (
            ok refl,
            (
              own (own_label b n (codes "W0"))
                  (gives_at (own_label b n (codes "W0")) (expansion mode b key function n (Wait site)) 0 _ refl refl),
              tt,
            ),
          ),
        ),
      ),
    ),
  )
  item_spelled (Call site to func s) h z taken own = let l = and_parts (is_word site && is_word to && is_word func) (is_local s) h in let s_small =
      small s l.1 in let all = and_parts (nat_lt site 8 && nat_lt to p) (nat_lt func 8) (kept (nat_lt site 8 && nat_lt to p && nat_lt func 8) z) in
      let first = and_parts (nat_lt site 8) (nat_lt to p) all.0 in let site_few = ltb-true site 8 first.0 in let to_few = ltb-true to p first.1 in
      let func_few = ltb-true func 8 all.1 in let there = addresses func in (
        ok refl,
        (
          record { fields = (omega arith, record { sfits = omega arith }); counts = refl },
          (
            ok refl,
            (
              ok refl,
              (
                own (own_label b n (codes "L1"))
                    (gives_at (own_label b n (codes "L1")) (expansion mode b key function n (Call site to func s)) 7 _ refl refl),
                (
                  record { fields = (omega arith, omega arith); counts = refl },
                  (
                    own (own_label b n (codes "L3"))
                        (gives_at (own_label b n (codes "L3")) (expansion mode b key function n (Call site to func s)) 28 _ refl refl),
                    (
                      tt,
                      (
                        record { fields = (omega arith, omega arith); counts = refl },
                        (
                          ok refl,
                          (
                            record { fields = (omega arith, omega arith); counts = refl },
                            (
                              ok refl,
                              (
                                record { fields = (omega arith, record { sfits = omega arith }, omega arith); counts = refl },
                                (
                                  ok refl,
                                  (
                                    ok refl,
                                    (
                                      ok refl,
                                      (
                                        ok refl,
                                        (
                                          ok refl,
                                          (
                                            record { fields = (omega arith, omega arith); counts = refl },
                                            (
                                              tt,
                                              (
                                                ok refl,
                                                (
                                                  ok refl,
                                                  (
                                                    ok refl,
                                                    (
                                                      own (own_label b n (codes "L2"))
                                                          (gives_at (own_label b n (codes "L2")) (expansion mode b key function n (Call site to func s)) 19
                                                          _ refl refl),
                                                      (
                                                        record { fields = (omega arith, omega arith); counts = refl },
                                                        (
                                                          ok refl,
                                                          (
                                                            own (own_label b n (codes "L3"))
                                                                (gives_at (own_label b n (codes "L3"))
                                                                (expansion mode b key function n (Call site to func s)) 28 _ refl refl),
                                                            (record { fields = (omega arith, omega arith); counts = refl }, (tt, tt)),
                                                          ),
                                                        ),
                                                      ),
                                                    ),
                                                  ),
                                                ),
                                              ),
                                            ),
                                          ),
                                        ),
                                      ),
                                    ),
                                  ),
                                ),
                              ),
                            ),
                          ),
                        ),
                      ),
                    ),
                  ),
                ),
              ),
            ),
          ),
        ),
      )
  item_spelled Take h z taken own = (
    ok refl,
    (
      ok refl,
      (
        ok refl,
        (
          ok refl,
          (
            tt,
            (
              ok refl,
              (
                own (taken_label b) (gives_at (taken_label b) (expansion mode b key function n Take) 12 _ refl refl),
                (
                  ok refl,
                  (
                    ok refl,
                    (
                      ok refl,
                      (
                        ok refl,
                        (
                          own (own_label b n (codes "T1")) (gives_at (own_label b n (codes "T1")) (expansion mode b key function n Take) 4 _ refl refl),
                          (
                            tt,
                            (
                              ok refl,
                              (
                                own (own_label b n (codes "T3")) (gives_at (own_label b n (codes "T3")) (expansion mode b key function n Take) 19 _ refl refl),
                                (ok refl, (ok refl, (ok refl, (ok refl, (tt, tt))))),
                              ),
                            ),
                          ),
                        ),
                      ),
                    ),
                  ),
                ),
              ),
            ),
          ),
        ),
      ),
    ),
  )
  item_spelled Finish h z taken own = (ok refl, (ok refl, (ok refl, (ok refl, (taken refl, tt)))))
  item_spelled Ret h z taken own = (exit, tt)
