use Rattle.std.proofs.Common.{◌≡◌, ◌∙◌, ⊎_elim, inl, refl, sym, ap, subst, ℕ, List}
use Rattle.std.specs.Prelude.{IsSomeAnd}
use Rattle.std.specs.Io.KnownBytes.{Appends}
use Rattle.dk_edge.specs.Streams.{AppendsPrefix}
use Rattle.dk_command.specs.Commands.{IsCommandLine}
use Rattle.dk_command.specs.Requests.{Asks, Playing, Plays, Report, Reports, Request, Serves, Serving, Stresses, Stressing, request_of}
use Rattle.dk_disk.specs.Opening.{Opened}
use Rattle.dk_model.specs.DurableWorlds.{DurableWorld}
use Rattle.dk_recover.proofs.OnlyRead.{none_read}
use Rattle.dk_recover.specs.Files.{OnlyReads}
use Rattle.dk_reports.specs.Causes.{IsOpenedAt}
use Rattle.darkstar.specs.Asked.{asked, play_of, request_for, serving_of}
use Rattle.dk_streams.specs.Sources.{IsPlayable}
use Rattle.darkstar.specs.Reports.{AppendsOne, AppendsPart, ForReport, Holds, IsCauseOf, IsLine, IsOfGame}
use Rattle.darkstar.specs.Runs.{ForPlay, IsPlayEnd, IsReadAndWritten, Keeps, KeepsReadScript, MayOpen, passage, terms_of}
use Rattle.darkstar.specs.Serves.{ForServe, HasServedAll, IsServeEnd, IsServedOrEnd, service_of}
use Rattle.darkstar.specs.Statuses.{IsOkOrEnd, IsOkOrOfDevice, IsWrittenOrNoMemory}
use Rattle.darkstar.specs.StressText.{ForStress, stress_text}
use Rattle.darkstar.proofs.Askings.{ask_once, asks_line, for_play, for_report, for_serve, for_stress, no_request, refused_line}
use Rattle.darkstar.proofs.PlayEnds.{spared, without_faults}
use Rattle.darkstar.proofs.Serving.{never_read, never_torn, serves_on}
use Rattle.darkstar.proofs.Told.{told_free}
use Rattle.darkstar.proofs.program.run.Goals as goal

pub returns-in-Err-Usage : goal.returns-in-Err-Usage
returns-in-Err-Usage g c =
    let line : ¬ IsCommandLine c.args.words.now = refused_line c.args.words.now c.in-Err-Usage.field-0 c.in-Err-Usage.field-0-is c.in-Err-Usage.ensures.usage in
    let play_not : (play : Playing) → Asks c.args.words.now (Plays play) → ⊥ = λ play. no_request c.args.words.now line (Plays play) in
    let serve_not : (serve : Serving) → Asks c.args.words.now (Serves serve) → ⊥ = λ serve. no_request c.args.words.now line (Serves serve) in
    let report_not : (report : Report) → Asks c.args.words.now (Reports report) → ⊥ = λ report. no_request c.args.words.now line (Reports report) in
    let stress_not : (stress : Stressing) → Asks c.args.words.now (Stresses stress) → ⊥ = λ stress. no_request c.args.words.now line (Stresses stress) in
    record {
      usage = λ memory. ((λ is. line), (λ outside. refl));
      unread = λ is. refl;
      unopened = λ is. refl;
      play_done = λ is. absurd cc;
      play_torn = λ is. absurd cc;
      play_keeps = λ play asks. absurd (play_not play asks);
      play_begun = λ play asks. absurd (play_not play asks);
      play_spares = λ tells none play asks. absurd (play_not play asks);
      play_folder = λ play asks. absurd (play_not play asks);
      play_unread = λ unread play asks. absurd (play_not play asks);
      play_end = λ play asks. absurd (play_not play asks);
      play_bad_line = λ play asks. absurd (play_not play asks);
      play_told_line = λ play asks. absurd (play_not play asks);
      play_few_read = λ is. absurd cc;
      play_complete = λ tells source home sink play asks. absurd (play_not play asks);
      serve_done = λ is. absurd cc;
      serve_keeps = λ serve asks. absurd (serve_not serve asks);
      serve_spares = λ tells none serve asks. absurd (serve_not serve asks);
      serve_folder = λ serve asks. absurd (serve_not serve asks);
      serve_end = λ serve asks. absurd (serve_not serve asks);
      serve_complete = λ tells home net crews serve asks. absurd (serve_not serve asks);
      serve_silent = λ serve asks. (refl, refl);
      only_serve = λ other. (refl, refl, c.new.ensures);
      net_cause = λ is. absurd cc;
      report_done = λ tells is. absurd cc;
      report_torn = λ tells is. absurd cc;
      report_cause = λ tells report asks. absurd (report_not report asks);
      report_complete = λ tells report asks. absurd (report_not report asks);
      report_folder = λ report asks. absurd (report_not report asks);
      report_opened = λ memory disk report asks. absurd (report_not report asks);
      report_reads = λ tells report asks. absurd (report_not report asks);
      report_unread = λ report asks. refl;
      report_disk_steady = λ no_fault report asks. refl;
      stress_done = λ is. absurd cc;
      stress_torn = λ is. absurd cc;
      stress_only = λ stress asks. absurd (stress_not stress asks);
      stress_complete = λ no_fault stress asks. absurd (stress_not stress asks);
      stress_alone = λ stress asks. absurd (stress_not stress asks);
      unwritten = λ ok torn. refl;
      disk_cause = λ is. absurd cc;
      source_cause = λ is. absurd cc;
      source_steady = λ no_fault. refl;
      sink_cause = λ is. absurd cc;
      sink_steady = λ no_fault. refl;
    }

pub returns-in-Err-NoMemory : goal.returns-in-Err-NoMemory
returns-in-Err-NoMemory g c = record {
  usage = λ memory. absurd (memory refl);
  unread = λ is. refl;
  unopened = λ is. refl;
  play_done = λ is. absurd cc;
  play_torn = λ is. absurd cc;
  play_keeps = λ play asks. inl (λ tells. none_read (g.M.Home.past c.args.home));
  play_begun = λ play asks. inl (λ tells. none_read (g.M.Home.past c.args.home));
  play_spares = λ tells none play asks. none_read (g.M.Home.past c.args.home);
  play_folder = λ play asks. subst (IsOpenedAt play.dir) (sym c.requires.unopened) tt;
  play_unread = λ unread play asks. refl;
  play_end = λ play asks. tt;
  play_bad_line = λ play asks. tt;
  play_told_line = λ play asks line. told_free (g.S.Source.remaining c.args.input.now) line;
  play_few_read = λ is. absurd cc;
  play_complete = λ tells source home sink play asks script d may. tt;
  serve_done = λ is. absurd cc;
  serve_keeps = λ serve asks. inl (λ tells. none_read (g.M.Home.past c.args.home));
  serve_spares = λ tells none serve asks. none_read (g.M.Home.past c.args.home);
  serve_folder = λ serve asks. subst (IsOpenedAt serve.dir) (sym c.requires.unopened) tt;
  serve_end = λ serve asks. tt;
  serve_complete = λ tells home net crews serve asks d may. tt;
  serve_silent = λ serve asks. (refl, refl);
  only_serve = λ other. (refl, refl, c.new-in-Err-NoMemory.ensures);
  net_cause = λ is. absurd cc;
  report_done = λ tells is. absurd cc;
  report_torn = λ tells is. absurd cc;
  report_cause = λ tells report asks. tt;
  report_complete = λ tells report asks d has ours. tt;
  report_folder = λ report asks. subst (IsOpenedAt report.dir) (sym c.requires.unopened) tt;
  report_opened = λ memory. absurd (memory refl);
  report_reads = λ tells report asks. none_read (g.M.Home.past c.args.home);
  report_unread = λ report asks. refl;
  report_disk_steady = λ no_fault report asks. refl;
  stress_done = λ is. absurd cc;
  stress_torn = λ is. absurd cc;
  stress_only = λ stress asks. tt;
  stress_complete = λ no_fault stress asks. tt;
  stress_alone = λ stress asks. (refl, refl);
  unwritten = λ ok torn. refl;
  disk_cause = λ is. absurd cc;
  source_cause = λ is. absurd cc;
  source_steady = λ no_fault. refl;
  sink_cause = λ is. absurd cc;
  sink_steady = λ no_fault. refl;
}

pub returns-in-Play : goal.returns-in-Play
returns-in-Play g c =
    let words = c.args.words.now in
    let mine = play_of c.as_str.result.now c.in-Play.terms in
    let is : request_of c.in-Ok.command ≡ Plays mine = c.of.ensures ∙ ap request_for c.in-Play.is ∙ ap (λ (d : List ℕ). Plays (play_of d c.in-Play.terms)) (sym c.as_str.ensures.value) in
    let p = c.play-ended.ensures in
    let past = g.M.Home.past c.args.home in
    let past' = g.M.Home.past c.play-ended.result.home in
    let opening = g.M.Home.opening c.play-ended.result.home in
    let home = passage g.M.Home.tells past past' (g.M.Home.counted c.args.home) (g.M.Home.counted c.play-ended.result.home) in
    let left = g.S.Source.remaining c.args.input.now in
    let left' = g.S.Source.remaining c.play-ended.new.input in
    let before = g.K.Sink.contents c.args.out.now in
    let after = g.K.Sink.contents c.play-ended.new.out in
    let s = c.play-ended.result.status in
    let once : (other : Request) → Asks words other → Plays mine ≡ other = λ other. ask_once words (Plays mine) other c.in-Ok.command c.in-Ok.ensures.one is in
    let asks : Asks words (Plays mine) = (c.in-Ok.command, c.in-Ok.ensures.ok, is) in
    let of_play : (P : Playing → Type 0) → P mine → ForPlay words P = for_play words mine c.in-Ok.command c.in-Ok.ensures.one is in
    let serve_not : (serve : Serving) → Asks words (Serves serve) → ⊥ = λ serve asks. let e : Plays mine ≡ Serves serve = once (Serves serve) asks in cc in
    let report_not : (report : Report) → Asks words (Reports report) → ⊥ = λ report asks. let e : Plays mine ≡ Reports report = once (Reports report) asks in cc in
    let stress_not : (stress : Stressing) → Asks words (Stresses stress) → ⊥ = λ stress asks. let e : Plays mine ≡ Stresses stress = once (Stresses stress) asks in cc in
    record {
      usage = λ memory. ((λ usage. absurd (p.no_usage usage)), (λ outside. absurd (outside (asks_line words (Plays mine) asks))));
      unread = λ usage. absurd (p.no_usage usage);
      unopened = λ usage. absurd (p.no_usage usage);
      play_done = λ ok. of_play (λ play. IsReadAndWritten Appends (terms_of play) home s left left' before after) (p.done ok);
      play_torn = λ torn. of_play (λ play. IsReadAndWritten AppendsPrefix (terms_of play) home s left left' before after) (p.torn torn);
      play_keeps = of_play (λ play. Keeps (terms_of play) home s) p.keeps;
      play_begun = of_play (λ play. KeepsReadScript (terms_of play) home s left left') p.begun;
      play_spares = λ tells none play asked. spared (terms_of mine) home s p.keeps tells none;
      play_folder = of_play (λ play. IsOpenedAt play.dir opening) p.folder;
      play_unread = λ unread play asked. p.unread unread;
      play_end = of_play (λ play. IsPlayEnd (terms_of play) home s) p.end;
      play_bad_line = λ play asked. p.bad_line;
      play_told_line = λ play asked. p.told_line;
      play_few_read = p.few_read;
      play_complete = λ tells source device sink. of_play (λ play. IsSomeAnd left IsPlayable → (d : DurableWorld) → MayOpen (terms_of play) past d → IsOkOrEnd s)
          (λ script d may. without_faults s (p.complete tells script d may (λ is. source (p.source_cause is))) (λ is. device (p.disk_cause is)) (λ is. sink (p.sink_cause is)));
      serve_done = λ ok serve asks. absurd (serve_not serve asks);
      serve_keeps = λ serve asks. absurd (serve_not serve asks);
      serve_spares = λ tells none serve asks. absurd (serve_not serve asks);
      serve_folder = λ serve asks. absurd (serve_not serve asks);
      serve_end = λ serve asks. absurd (serve_not serve asks);
      serve_complete = λ tells home net crews serve asks. absurd (serve_not serve asks);
      serve_silent = λ serve asks. absurd (serve_not serve asks);
      only_serve = λ other. (refl, refl, c.new-in-Play.ensures);
      net_cause = λ is. absurd (subst (IsPlayEnd (terms_of mine) home) is p.end);
      report_done = λ tells ok report asks. absurd (report_not report asks);
      report_torn = λ tells torn report asks. absurd (report_not report asks);
      report_cause = λ tells report asks. absurd (report_not report asks);
      report_complete = λ tells report asks. absurd (report_not report asks);
      report_folder = λ report asks. absurd (report_not report asks);
      report_opened = λ memory disk report asks. absurd (report_not report asks);
      report_reads = λ tells report asks. absurd (report_not report asks);
      report_unread = λ report asks. absurd (report_not report asks);
      report_disk_steady = λ no_fault report asks. absurd (report_not report asks);
      stress_done = λ ok stress asks. absurd (stress_not stress asks);
      stress_torn = λ torn stress asks. absurd (stress_not stress asks);
      stress_only = λ stress asks. absurd (stress_not stress asks);
      stress_complete = λ no_fault stress asks. absurd (stress_not stress asks);
      stress_alone = λ stress asks. absurd (stress_not stress asks);
      unwritten = p.unwritten;
      disk_cause = p.disk_cause;
      source_cause = p.source_cause;
      source_steady = p.source_steady;
      sink_cause = p.sink_cause;
      sink_steady = p.sink_steady;
    }

pub returns-in-Serve : goal.returns-in-Serve
returns-in-Serve g c =
    let words = c.args.words.now in
    let mine = serving_of c.as_str-in-Serve.result.now c.in-Serve.service in
    let is : request_of c.in-Ok.command ≡ Serves mine = c.of.ensures ∙ ap request_for c.in-Serve.is ∙ ap (λ (d : List ℕ). Serves (serving_of d c.in-Serve.service)) (sym c.as_str-in-Serve.ensures.value) in
    let v = c.serve.ensures in
    let past = g.M.Home.past c.args.home in
    let past' = g.M.Home.past c.serve.result.home in
    let opening = g.M.Home.opening c.serve.result.home in
    let home = passage g.M.Home.tells past past' (g.M.Home.counted c.args.home) (g.M.Home.counted c.serve.result.home) in
    let s = c.serve.result.status in
    let once : (other : Request) → Asks words other → Serves mine ≡ other = λ other. ask_once words (Serves mine) other c.in-Ok.command c.in-Ok.ensures.one is in
    let asks : Asks words (Serves mine) = (c.in-Ok.command, c.in-Ok.ensures.ok, is) in
    let of_serve : (P : Serving → Type 0) → P mine → ForServe words P = for_serve words mine c.in-Ok.command c.in-Ok.ensures.one is in
    let play_not : (play : Playing) → Asks words (Plays play) → ⊥ = λ play asks. let e : Serves mine ≡ Plays play = once (Plays play) asks in cc in
    let report_not : (report : Report) → Asks words (Reports report) → ⊥ = λ report asks. let e : Serves mine ≡ Reports report = once (Reports report) asks in cc in
    let stress_not : (stress : Stressing) → Asks words (Stresses stress) → ⊥ = λ stress asks. let e : Serves mine ≡ Stresses stress = once (Stresses stress) asks in cc in
    record {
      usage = λ memory. ((λ usage. absurd (subst (IsServeEnd (service_of mine) home) usage v.end)), (λ outside. absurd (outside (asks_line words (Serves mine) asks))));
      unread = λ usage. refl;
      unopened = λ usage. absurd (subst (IsServeEnd (service_of mine) home) usage v.end);
      play_done = λ ok play asks. absurd (play_not play asks);
      play_torn = λ torn play asks. absurd (play_not play asks);
      play_keeps = λ play asks. absurd (play_not play asks);
      play_begun = λ play asks. absurd (play_not play asks);
      play_spares = λ tells none play asks. absurd (play_not play asks);
      play_folder = λ play asks. absurd (play_not play asks);
      play_unread = λ unread play asks. absurd (play_not play asks);
      play_end = λ play asks. absurd (play_not play asks);
      play_bad_line = λ play asks. absurd (play_not play asks);
      play_told_line = λ play asks. absurd (play_not play asks);
      play_few_read = λ read. absurd (subst (IsServeEnd (service_of mine) home) read v.end);
      play_complete = λ tells source home sink play asks. absurd (play_not play asks);
      serve_done = λ ok. of_serve (λ serve. HasServedAll serve.port serve.sessions c.serve.result.served (g.L.Listener.listening c.args.net.now) (g.L.Listener.listening c.serve.new.net)) (v.done ok);
      serve_keeps = of_serve (λ serve. Keeps (service_of serve) home s) v.keeps;
      serve_spares = λ tells none serve asked. spared (service_of mine) home s v.keeps tells none;
      serve_folder = of_serve (λ serve. IsOpenedAt serve.dir opening) v.folder;
      serve_end = of_serve (λ serve. IsServeEnd (service_of serve) home s) v.end;
      serve_complete = λ tells device net crews. of_serve (λ serve. (d : DurableWorld) → MayOpen (service_of serve) past d → IsServedOrEnd s)
          (λ d may. serves_on s (v.complete tells d may) (λ is. device (v.disk_cause is)) (λ is. ⊎_elim net crews (v.net_cause is)));
      serve_silent = λ serve asked. (refl, refl);
      only_serve = λ other. absurd (other mine asks);
      net_cause = v.net_cause;
      report_done = λ tells ok report asks. absurd (report_not report asks);
      report_torn = λ tells torn report asks. absurd (report_not report asks);
      report_cause = λ tells report asks. absurd (report_not report asks);
      report_complete = λ tells report asks. absurd (report_not report asks);
      report_folder = λ report asks. absurd (report_not report asks);
      report_opened = λ memory disk report asks. absurd (report_not report asks);
      report_reads = λ tells report asks. absurd (report_not report asks);
      report_unread = λ report asks. absurd (report_not report asks);
      report_disk_steady = λ no_fault report asks. absurd (report_not report asks);
      stress_done = λ ok stress asks. absurd (stress_not stress asks);
      stress_torn = λ torn stress asks. absurd (stress_not stress asks);
      stress_only = λ stress asks. absurd (stress_not stress asks);
      stress_complete = λ no_fault stress asks. absurd (stress_not stress asks);
      stress_alone = λ stress asks. absurd (stress_not stress asks);
      unwritten = λ ok torn. refl;
      disk_cause = v.disk_cause;
      source_cause = λ is. absurd (never_read (service_of mine) home s v.end is);
      source_steady = λ no_fault. refl;
      sink_cause = λ is. absurd (never_torn (service_of mine) home s v.end is);
      sink_steady = λ no_fault. refl;
    }

pub returns-in-Report : goal.returns-in-Report
returns-in-Report g c =
    let words = c.args.words.now in
    let mine = asked c.in-Report.report in
    let is : request_of c.in-Ok.command ≡ Reports mine = c.of.ensures ∙ ap request_for c.in-Report.is in
    let w = c.write-ended.ensures in
    let past = g.M.Home.past c.args.home in
    let past' = g.M.Home.past c.write-ended.result.home in
    let opening = g.M.Home.opening c.write-ended.result.home in
    let before = g.K.Sink.contents c.args.out.now in
    let after = g.K.Sink.contents c.write-ended.new.out in
    let s = c.write-ended.result.status in
    let once : (other : Request) → Asks words other → Reports mine ≡ other = λ other. ask_once words (Reports mine) other c.in-Ok.command c.in-Ok.ensures.one is in
    let asks : Asks words (Reports mine) = (c.in-Ok.command, c.in-Ok.ensures.ok, is) in
    let of_report : (P : Report → Type 0) → P mine → ForReport words P = for_report words mine c.in-Ok.command c.in-Ok.ensures.one is in
    let play_not : (play : Playing) → Asks words (Plays play) → ⊥ = λ play asks. let e : Reports mine ≡ Plays play = once (Plays play) asks in cc in
    let serve_not : (serve : Serving) → Asks words (Serves serve) → ⊥ = λ serve asks. let e : Reports mine ≡ Serves serve = once (Serves serve) asks in cc in
    let stress_not : (stress : Stressing) → Asks words (Stresses stress) → ⊥ = λ stress asks. let e : Reports mine ≡ Stresses stress = once (Stresses stress) asks in cc in
    record {
      usage = λ memory. ((λ usage. absurd (w.no_usage usage)), (λ outside. absurd (outside (asks_line words (Reports mine) asks))));
      unread = λ usage. refl;
      unopened = λ usage. absurd (w.no_usage usage);
      play_done = λ ok play asks. absurd (play_not play asks);
      play_torn = λ torn play asks. absurd (play_not play asks);
      play_keeps = λ play asks. absurd (play_not play asks);
      play_begun = λ play asks. absurd (play_not play asks);
      play_spares = λ tells none play asks. absurd (play_not play asks);
      play_folder = λ play asks. absurd (play_not play asks);
      play_unread = λ unread play asks. absurd (play_not play asks);
      play_end = λ play asks. absurd (play_not play asks);
      play_bad_line = λ play asks. absurd (play_not play asks);
      play_told_line = λ play asks. absurd (play_not play asks);
      play_few_read = λ read. absurd (w.no_read read);
      play_complete = λ tells source home sink play asks. absurd (play_not play asks);
      serve_done = λ ok serve asks. absurd (serve_not serve asks);
      serve_keeps = λ serve asks. absurd (serve_not serve asks);
      serve_spares = λ tells none serve asks. absurd (serve_not serve asks);
      serve_folder = λ serve asks. absurd (serve_not serve asks);
      serve_end = λ serve asks. absurd (serve_not serve asks);
      serve_complete = λ tells home net crews serve asks. absurd (serve_not serve asks);
      serve_silent = λ serve asks. absurd (serve_not serve asks);
      only_serve = λ other. (refl, refl, c.new-in-Report.ensures);
      net_cause = λ is. absurd (w.no_net is);
      report_done = λ tells ok. of_report (λ report. AppendsOne (IsLine report past) before after) (w.done tells ok);
      report_torn = λ tells torn. of_report (λ report. AppendsPart (IsLine report past) before after) (w.torn tells torn);
      report_cause = λ tells. of_report (λ report. IsCauseOf report past s) (w.cause tells);
      report_complete = λ tells. of_report (λ report. (d : DurableWorld) → Holds past d → IsOfGame report past → IsOkOrOfDevice s) (w.complete tells);
      report_folder = of_report (λ report. IsOpenedAt report.dir opening) w.folder;
      report_opened = λ memory disk. of_report (λ report. opening ≡ Opened report.dir) (w.opened disk);
      report_reads = λ tells. of_report (λ report. OnlyReads past past') (w.reads tells);
      report_unread = λ report asked. refl;
      report_disk_steady = λ no_fault report asked. w.disk_steady no_fault;
      stress_done = λ ok stress asks. absurd (stress_not stress asks);
      stress_torn = λ torn stress asks. absurd (stress_not stress asks);
      stress_only = λ stress asks. absurd (stress_not stress asks);
      stress_complete = λ no_fault stress asks. absurd (stress_not stress asks);
      stress_alone = λ stress asks. absurd (stress_not stress asks);
      unwritten = w.unwritten;
      disk_cause = w.disk_cause;
      source_cause = λ read. absurd (w.no_read read);
      source_steady = λ no_fault. refl;
      sink_cause = w.sink_cause;
      sink_steady = w.sink_steady;
    }

pub returns-in-Stress : goal.returns-in-Stress
returns-in-Stress g c =
    let words = c.args.words.now in
    let mine : Stressing = record { seed = c.in-Stress.seed; tasks = c.in-Stress.tasks; workers = c.in-Stress.workers } in
    let is : request_of c.in-Ok.command ≡ Stresses mine = c.of.ensures ∙ ap request_for c.in-Stress.is in
    let w = c.stress-status.ensures in
    let before = g.K.Sink.contents c.args.out.now in
    let after = g.K.Sink.contents c.stress-status.new.out in
    let s = c.stress-status.result in
    let once : (other : Request) → Asks words other → Stresses mine ≡ other = λ other. ask_once words (Stresses mine) other c.in-Ok.command c.in-Ok.ensures.one is in
    let asks : Asks words (Stresses mine) = (c.in-Ok.command, c.in-Ok.ensures.ok, is) in
    let of_stress : (P : Stressing → Type 0) → P mine → ForStress words P = for_stress words mine c.in-Ok.command c.in-Ok.ensures.one is in
    let play_not : (play : Playing) → Asks words (Plays play) → ⊥ = λ play asks. let e : Stresses mine ≡ Plays play = once (Plays play) asks in cc in
    let serve_not : (serve : Serving) → Asks words (Serves serve) → ⊥ = λ serve asks. let e : Stresses mine ≡ Serves serve = once (Serves serve) asks in cc in
    let report_not : (report : Report) → Asks words (Reports report) → ⊥ = λ report asks. let e : Stresses mine ≡ Reports report = once (Reports report) asks in cc in
    record {
      usage = λ memory. ((λ usage. absurd (subst IsWrittenOrNoMemory usage w.only)), (λ outside. absurd (outside (asks_line words (Stresses mine) asks))));
      unread = λ usage. refl;
      unopened = λ usage. refl;
      play_done = λ ok play asks. absurd (play_not play asks);
      play_torn = λ torn play asks. absurd (play_not play asks);
      play_keeps = λ play asks. absurd (play_not play asks);
      play_begun = λ play asks. absurd (play_not play asks);
      play_spares = λ tells none play asks. absurd (play_not play asks);
      play_folder = λ play asks. absurd (play_not play asks);
      play_unread = λ unread play asks. absurd (play_not play asks);
      play_end = λ play asks. absurd (play_not play asks);
      play_bad_line = λ play asks. absurd (play_not play asks);
      play_told_line = λ play asks. absurd (play_not play asks);
      play_few_read = λ read. absurd (subst IsWrittenOrNoMemory read w.only);
      play_complete = λ tells source home sink play asks. absurd (play_not play asks);
      serve_done = λ ok serve asks. absurd (serve_not serve asks);
      serve_keeps = λ serve asks. absurd (serve_not serve asks);
      serve_spares = λ tells none serve asks. absurd (serve_not serve asks);
      serve_folder = λ serve asks. absurd (serve_not serve asks);
      serve_end = λ serve asks. absurd (serve_not serve asks);
      serve_complete = λ tells home net crews serve asks. absurd (serve_not serve asks);
      serve_silent = λ serve asks. absurd (serve_not serve asks);
      only_serve = λ other. (refl, refl, c.new-in-Stress.ensures);
      net_cause = λ is. absurd (subst IsWrittenOrNoMemory is w.only);
      report_done = λ tells ok report asks. absurd (report_not report asks);
      report_torn = λ tells torn report asks. absurd (report_not report asks);
      report_cause = λ tells report asks. absurd (report_not report asks);
      report_complete = λ tells report asks. absurd (report_not report asks);
      report_folder = λ report asks. absurd (report_not report asks);
      report_opened = λ memory disk report asks. absurd (report_not report asks);
      report_reads = λ tells report asks. absurd (report_not report asks);
      report_unread = λ report asked. refl;
      report_disk_steady = λ no_fault report asked. refl;
      stress_done = λ ok. of_stress (λ stress. Appends before after (stress_text stress.seed stress.tasks)) (subst (λ (n : ℕ). Appends before after (stress_text n mine.tasks)) c.from.ensures (w.done ok));
      stress_torn = λ torn. of_stress (λ stress. AppendsPrefix before after (stress_text stress.seed stress.tasks)) (subst (λ (n : ℕ). AppendsPrefix before after (stress_text n mine.tasks)) c.from.ensures (w.torn torn));
      stress_only = λ stress asks. w.only;
      stress_complete = λ no_fault stress asks. w.complete no_fault;
      stress_alone = λ stress asks. (refl, refl);
      unwritten = w.unwritten;
      disk_cause = λ disk. absurd (subst IsWrittenOrNoMemory disk w.only);
      source_cause = λ read. absurd (subst IsWrittenOrNoMemory read w.only);
      source_steady = λ no_fault. refl;
      sink_cause = w.sink_cause;
      sink_steady = w.sink_steady;
    }
