-- The order of a history is read back from its transcript.
use Rattle.std.proofs.Common.{◌≡◌, ℕ, ◌+◌, ◌^◌, ◌<◌, Bool, true, false, cond, not, ◌&&◌, eqb, Option, Some, None, List, [], ◌∷◌, ◌++◌, map, codes, refl, ap, ◌∙◌, arith, append_assoc}
use Rattle.std.specs.Fmt.{decimal}
use Rattle.std.specs.Str.Parse.{digits_value}
use Rattle.std.specs.List.{AllByRecursion, cons_option, filter_map, onto_first}
use Rattle.std.proofs.lemmas.Fmt.{decimal_is_IsNumeral}
use Rattle.std.proofs.lemmas.List.{append-nil}
use Rattle.std.proofs.lemmas.List.Elements.{filter_map-append}
use Rattle.dk_types.specs.declared.event.Event.{Event}
use Rattle.dk_types.specs.declared.event.Event.TheVariants as event
use Rattle.dk_types.specs.declared.event.ConnectReply.{ConnectReply}
use Rattle.dk_types.specs.declared.event.ConnectReply.TheVariants as connected
use Rattle.dk_types.specs.declared.event.PostReply.{PostReply}
use Rattle.dk_types.specs.declared.event.PostReply.TheVariants as posted
use Rattle.dk_types.specs.declared.event.ClaimReply.{ClaimReply}
use Rattle.dk_types.specs.declared.event.ClaimReply.TheVariants as claimed
use Rattle.dk_types.specs.declared.number.ConnNo.{ConnNo}
use Rattle.dk_types.specs.declared.job.Out.{Out}
use Rattle.dk_model.specs.Lines.{lines_of, text_of, first_word, after_word}
use Rattle.dk_model.specs.Orders.{OrderItem, Claimed, Committed, job_text, outcome_text, claim_of, commit_of, item_of_line, parted, order_of, item_of_claim, item_of}
use Rattle.dk_model.specs.Phases.{IsSmallClaim, IsSmall, AreSmall}
use Rattle.dk_model.specs.Transcripts.{Known, name_at, nothing_known, to_line, connect_lines, post_lines, claim_lines, event_lines, lines_of_events, known_after, knowing, lines_of_phases, done_line, transcript_text}
use Rattle.dk_script.proofs.Lacking.{lacks, lacks-append, lacks-decimal}
use Rattle.dk_script.proofs.FirstWords.{first_word-space, after_word-space}
use Rattle.dk_script.proofs.LinesTold.{IsWithin, AllByRecursion-append, lines_of_events-within}

-- one byte more before a line that ends
lines_of-cons : (b : ℕ) (t : Bool) (line rest : List ℕ) (others : Bool) → (not t && others) ≡ true → (others ≡ true → lines_of (line ++ 10 ∷ rest) ≡ line ∷ lines_of rest) → cond t ([] ∷ lines_of (line ++ 10 ∷ rest)) (onto_first b (lines_of (line ++ 10 ∷ rest))) ≡ (b ∷ line) ∷ lines_of rest
lines_of-cons b true line rest others h behind = absurd cc
lines_of-cons b false line rest others h behind = ap (onto_first b) (behind h)

-- a line ends at its 0A
pub lines_of-line : (line rest : List ℕ) → lacks 10 line ≡ true → lines_of (line ++ 10 ∷ rest) ≡ line ∷ lines_of rest
lines_of-line [] rest h = refl
lines_of-line (b ∷ line) rest h = lines_of-cons b (eqb b 10) line rest (lacks 10 line) h (lines_of-line line rest)

-- the lines of a text that is made of lines
pub lines_of-text_of : (lines : List (List ℕ)) → AllByRecursion (λ line. lacks 10 line ≡ true) lines → lines_of (text_of lines) ≡ lines
lines_of-text_of [] h = refl
lines_of-text_of (line ∷ lines) h =
    ap lines_of (append_assoc line (10 ∷ []) (text_of lines)) ∙ lines_of-line line (text_of lines) h.0 ∙ ap (λ (ls : List (List ℕ)). line ∷ ls) (lines_of-text_of lines h.1)

-- the words of a claim, one by one
claim_of-parts : (words run behind at job : List ℕ) → first_word words ≡ run → after_word words ≡ behind → first_word (after_word behind) ≡ at → after_word (after_word behind) ≡ job → claim_of words ≡ Claimed (digits_value 10 run) (digits_value 10 at) job
claim_of-parts words run behind at job r b a j =
    let item : List ℕ → List ℕ → OrderItem = λ x y. Claimed (digits_value 10 x) (digits_value 10 (first_word (after_word y))) (after_word (after_word y)) in
    ap (λ x. item x (after_word words)) r ∙ ap (item run) b ∙ ap (λ (m : List ℕ). Claimed (digits_value 10 run) (digits_value 10 m) (after_word (after_word behind))) a ∙ ap (Claimed (digits_value 10 run) (digits_value 10 at)) j

-- `RUN at M JOB` tells its claim
claim_of-words : (run at : ℕ) (job : List ℕ) → run < 2 ^ 64 → at < 2 ^ 64 → claim_of (decimal run ++ codes " at " ++ decimal at ++ 32 ∷ job) ≡ Claimed run at job
claim_of-words run at job small soon =
    let behind = 97 ∷ 116 ∷ 32 ∷ (decimal at ++ 32 ∷ job) in
    let words : decimal run ++ codes " at " ++ decimal at ++ 32 ∷ job ≡ decimal run ++ 32 ∷ behind = simp append_assoc in
    let run_lacks = lacks-decimal 32 run (omega arith) in
    let at_lacks = lacks-decimal 32 at (omega arith) in
    ap claim_of words ∙ claim_of-parts (decimal run ++ 32 ∷ behind) (decimal run) behind (decimal at) job (first_word-space (decimal run) behind run_lacks) (after_word-space (decimal run) behind run_lacks) (first_word-space (decimal at) job at_lacks) (after_word-space (decimal at) job at_lacks)
    ∙ ap (λ (n : ℕ). Claimed n (digits_value 10 (decimal at)) job) (decimal_is_IsNumeral run small).1
    ∙ ap (λ (n : ℕ). Claimed run n job) (decimal_is_IsNumeral at soon).1

-- the words of a commit, one by one
commit_of-parts : (words behind run outcome : List ℕ) → after_word words ≡ behind → first_word (after_word behind) ≡ run → after_word (after_word behind) ≡ outcome → commit_of words ≡ Committed (digits_value 10 run) outcome
commit_of-parts words behind run outcome b r o =
    let item : List ℕ → OrderItem = λ y. Committed (digits_value 10 (first_word (after_word y))) (after_word (after_word y)) in
    ap item b ∙ ap (λ (x : List ℕ). Committed (digits_value 10 x) (after_word (after_word behind))) r ∙ ap (Committed (digits_value 10 run)) o

-- `SEQ run RUN OUTCOME` tells its commit
commit_of-words : (seq run : ℕ) (outcome : List ℕ) → run < 2 ^ 64 → commit_of (decimal seq ++ codes " run " ++ decimal run ++ 32 ∷ outcome) ≡ Committed run outcome
commit_of-words seq run outcome small =
    let behind = 114 ∷ 117 ∷ 110 ∷ 32 ∷ (decimal run ++ 32 ∷ outcome) in
    let words : decimal seq ++ codes " run " ++ decimal run ++ 32 ∷ outcome ≡ decimal seq ++ 32 ∷ behind = simp append_assoc in
    let run_lacks = lacks-decimal 32 run (omega arith) in
    ap commit_of words ∙ commit_of-parts (decimal seq ++ 32 ∷ behind) behind (decimal run) outcome (after_word-space (decimal seq) behind (lacks-decimal 32 seq (omega arith))) (first_word-space (decimal run) outcome run_lacks) (after_word-space (decimal run) outcome run_lacks)
    ∙ ap (λ (n : ℕ). Committed n outcome) (decimal_is_IsNumeral run small).1

-- the items that lines tell
abbrev told : List (List ℕ) → List OrderItem
told = filter_map item_of_line

-- a Connect tells no item
told-connect : (name : List ℕ) (reply : ConnectReply) → told (connect_lines name reply) ≡ []
told-connect name (connected.Number conn) = refl
told-connect name (connected.Exhausted next) = refl

-- a Post tells none
told-post : (name : List ℕ) (conn : ConnNo) (reply : PostReply) → told (post_lines name conn reply) ≡ []
told-post name conn posted.Taken = refl
told-post name conn posted.Closed = refl
told-post name conn (posted.QueueFull waiting) = refl

-- a granted claim tells itself
told-claim : (reply : ClaimReply) → IsSmallClaim reply → told (claim_lines reply) ≡ cons_option (item_of_claim reply) []
told-claim (claimed.Granted run at job) small = ap (λ (i : OrderItem). i ∷ []) (claim_of-words run.0 at (job_text job) small.0 small.1)
told-claim claimed.Nothing small = refl
told-claim (claimed.Spent granted) small = refl
told-claim (claimed.Exhausted next) small = refl

-- a Hand tells none
told-hand : (conn : ConnNo) (name : List ℕ) (outs : List Out) → told (map (to_line conn name) outs) ≡ []
told-hand conn name [] = refl
told-hand conn name (o ∷ outs) = told-hand conn name outs

-- the lines of an event tell its item
told-event : (known : Known) (e : Event) → IsSmall e → told (event_lines known e) ≡ cons_option (item_of e) []
told-event known (event.Connect pass name reply) small = told-connect name reply
told-event known (event.Post pass conn input reply) small = told-post (name_at known conn) conn reply
told-event known (event.Claim pass reply) small = told-claim reply small
told-event known (event.Release pass run) small = refl
told-event known (event.Commit pass run seq outcome) small = ap (λ (i : OrderItem). i ∷ []) (commit_of-words seq run.0 (outcome_text outcome) small)
told-event known (event.Hand pass conn most outs end) small = told-hand conn (name_at known conn) outs
told-event known (event.Tick pass moment) small = refl

-- an item that may be there, before others
cons_option-append : {A : Type 0} (o : Option A) (xs : List A) → cons_option o [] ++ xs ≡ cons_option o xs
cons_option-append None xs = refl
cons_option-append (Some x) xs = refl

-- the lines of events tell their items
told-events : (known : Known) (events : List Event) → AllByRecursion IsSmall events → told (lines_of_events known events) ≡ filter_map item_of events
told-events known [] small = refl
told-events known (e ∷ events) small =
    filter_map-append item_of_line (event_lines known e) (lines_of_events (knowing known e) events) ∙ ap (λ (items : List OrderItem). items ++ told (lines_of_events (knowing known e) events)) (told-event known e small.0) ∙ cons_option-append (item_of e) _ ∙ ap (cons_option (item_of e)) (told-events (knowing known e) events small.1)

-- the lines of a phase are put before what stands behind them
parted-within : (lines rest : List (List ℕ)) → AllByRecursion IsWithin lines → parted (lines ++ rest) ≡ (lines ++ (parted rest).0, (parted rest).1)
parted-within [] rest within = refl
parted-within (line ∷ lines) rest within =
    let p = parted (lines ++ rest) in
    let choice : Bool → List (List ℕ) × List (List (List ℕ)) = λ t. cond t ([], p.0 ∷ p.1) (line ∷ p.0, p.1) in
    ap choice within.0.inner ∙ ap (λ (q : List (List ℕ) × List (List (List ℕ))). (line ∷ q.0, q.1)) (parted-within lines rest within.1)

-- what the parts of a transcript tell: nothing before the first phase, and then each phase's items
told-phases : (number : ℕ) (known : Known) (phases : List (List Event)) (commits tasks : ℕ) → AreSmall phases → (told (parted (lines_of_phases number known phases ++ done_line commits tasks ∷ [])).0 ≡ []) × (map told (parted (lines_of_phases number known phases ++ done_line commits tasks ∷ [])).1 ≡ map (filter_map item_of) phases)
told-phases number known [] commits tasks small = (refl, refl)
told-phases number known (events ∷ phases) commits tasks small =
    let done = done_line commits tasks ∷ [] in
    let lines = lines_of_events known events in
    let others = lines_of_phases (number + 1) (known_after known events) phases in
    let p = parted (others ++ done) in
    let rest = told-phases (number + 1) (known_after known events) phases commits tasks small.1 in
    let parts = ap parted (append_assoc lines others done) ∙ parted-within lines (others ++ done) (lines_of_events-within known events) in
    let first = filter_map-append item_of_line lines p.0 ∙ ap (λ (items : List OrderItem). told lines ++ items) rest.0 ∙ append-nil (told lines) ∙ told-events known events small.0 in
    (refl, ap (λ (q : List (List ℕ) × List (List (List ℕ))). told q.0 ∷ map told q.1) parts ∙ ap (λ (items : List OrderItem). items ∷ map told p.1) first ∙ ap (λ (order : List (List OrderItem)). filter_map item_of events ∷ order) rest.1)

-- lines within a phase have no byte 0A
ended-within : (lines : List (List ℕ)) → AllByRecursion IsWithin lines → AllByRecursion (λ line. lacks 10 line ≡ true) lines
ended-within [] within = tt
ended-within (line ∷ lines) within = (within.0.ended, ended-within lines within.1)

-- nor have the lines of phases
ended-phases : (number : ℕ) (known : Known) (phases : List (List Event)) → AllByRecursion (λ line. lacks 10 line ≡ true) (lines_of_phases number known phases)
ended-phases number known [] = tt
ended-phases number known (events ∷ phases) =
    (lacks-decimal 10 number (omega arith), AllByRecursion-append (λ line. lacks 10 line ≡ true) (lines_of_events known events) _ (ended-within _ (lines_of_events-within known events)) (ended-phases (number + 1) (known_after known events) phases))

-- nor has the last line
ended-done : (commits tasks : ℕ) → lacks 10 (done_line commits tasks) ≡ true
ended-done commits tasks =
    lacks-append 10 (decimal commits ++ codes " tasks ") (decimal tasks) (lacks-append 10 (decimal commits) (codes " tasks ") (lacks-decimal 10 commits (omega arith)) refl) (lacks-decimal 10 tasks (omega arith))

-- the order that a transcript tells is that of its phases
pub order_of-transcript_text : (phases : List (List Event)) (commits tasks : ℕ) → AreSmall phases → order_of (transcript_text phases commits tasks) ≡ map (filter_map item_of) phases
unfolding order_of transcript_text
order_of-transcript_text phases commits tasks small =
    let lines = lines_of_phases 0 nothing_known phases in
    let ended = AllByRecursion-append (λ line. lacks 10 line ≡ true) lines (done_line commits tasks ∷ []) (ended-phases 0 nothing_known phases) (ended-done commits tasks, tt) in
    ap (λ (ls : List (List ℕ)). map told (parted ls).1) (lines_of-text_of (lines ++ done_line commits tasks ∷ []) ended) ∙ (told-phases 0 nothing_known phases commits tasks small).1
