-- The general registers by their names (SDM volume 2, table 3-1).
use Rattle.ev_stub.specs.declared.names.Registers.{Registers}

abbrev pub by_number : Registers
by_number = record {
  rax = 0;
  rcx = 1;
  rdx = 2;
  rbx = 3;
  rsp = 4;
  rbp = 5;
  rsi = 6;
  rdi = 7;
  r8 = 8;
  r9 = 9;
  r10 = 10;
  r11 = 11;
  r12 = 12;
  r13 = 13;
  r14 =
      14;
  r15 = 15;
}
