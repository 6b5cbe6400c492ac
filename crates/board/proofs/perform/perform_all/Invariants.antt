use Rattle.std.proofs.Common.{take, Ok}
use Rattle.board.specs.Turns.{Performed}
use Rattle.board.proofs.perform.perform_all.Given as goal

-- the requests so far were all done
abbrev pub invariant-loop-request : goal.invariant-loop-request
invariant-loop-request g l =
    Performed g.B.Board.meaning g.B.Board.fills l.initial.board (take l.request-index l.requests) l.board (Ok tt)
