use Rattle.dk_pump_tests.proofs.polled.to_end.Given as goal

abbrev pub invariant-loop-polls : goal.invariant-loop-polls
invariant-loop-polls g l = g.F.Future.can_poll l.future
