-- What the lines of the code's tables stand for. Own.
use Rattle.std.specs.Prelude.{List, map, codes}
use Rattle.ev_asm.specs.declared.statement.Stmt.{Stmt}
use Rattle.ev_asm.specs.Assembly.{Name}
use Rattle.ev_listing.specs.Marks
use Rattle.ev_listing.specs.Marks.{Marked, Never, Always}
use Rattle.ev_listing.specs.Statements.{op, seen, label}
use Rattle.ev_stub.specs.declared.label.StubLabel.{StubLabel}
use Rattle.ev_stub.specs.declared.label.StubLabel.TheVariants.{Nobody, Fu, Ft, Fd, Fs, Fi, Fk, Fexit, Fxu, Fxk, Fexitn, Common, Cm1, Cm2, Cm3, Exit, Xu, Xi, Xk, Nmi, N1, Redir, Inret, First, Nbody, Nb1, Nb2, Exitn, Nx1, Nlast}
use Rattle.ev_stub.specs.declared.line.Line.{Line}
use Rattle.ev_stub.specs.declared.line.Line.TheVariants.{Label, Op, Seen, Jump, SeenJump}
use Rattle.ev_stub.specs.declared.listing.Listing.{Listing}

-- the names of the labels
abbrev pub name_of : StubLabel → Name
name_of Nobody = codes "NONE"
name_of Fu = codes "FU"
name_of Ft = codes "FT"
name_of Fd = codes "FD"
name_of Fs = codes "FS"
name_of Fi = codes "FI"
name_of Fk = codes "FK"
name_of Fexit = codes "FEXIT"
name_of Fxu = codes "FXU"
name_of Fxk = codes "FXK"
name_of Fexitn = codes "FEXITN"
name_of Common = codes "COMMON"
name_of Cm1 = codes "CM1"
name_of Cm2 = codes "CM2"
name_of Cm3 = codes "CM3"
name_of Exit = codes "EXIT"
name_of Xu = codes "XU"
name_of Xi = codes "XI"
name_of Xk = codes "XK"
name_of Nmi = codes "NMI"
name_of N1 = codes "N1"
name_of Redir = codes "REDIR"
name_of Inret = codes "INRET"
name_of First = codes "FIRST"
name_of Nbody = codes "NBODY"
name_of Nb1 = codes "NB1"
name_of Nb2 = codes "NB2"
name_of Exitn = codes "EXITN"
name_of Nx1 = codes "NX1"
name_of Nlast = codes "NLAST"

abbrev pub marked_of : Line → Marked
marked_of (Label l) = label (name_of l)
marked_of (Op i) = op i
marked_of (Seen i) = seen i
marked_of (Jump c l) = record { mark = Never; stmt = Stmt.Jump c (name_of l) }
marked_of (SeenJump c l) = record { mark = Always; stmt = Stmt.Jump c (name_of l) }

abbrev pub stmt_of : Line → Stmt
stmt_of l = (marked_of l).stmt

abbrev pub listing_of : Listing → Marks.Listing
listing_of l = record { address = l.address; lines = map marked_of l.lines }

abbrev pub listings_of : List Listing → List Marks.Listing
listings_of ls = map listing_of ls
