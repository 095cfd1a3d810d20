-- What `clap` found of an argument is as the grammar wants it.
use Rattle.std.proofs.Common.{◌≡◌, ◌∙◌, ◌⊎◌, ◌<◌, ◌≤◌, ◌&&◌, ◌||◌, ◌==◌, ℕ, Bool, true, false, not, List, [], ◌∷◌, length, is_some, Option, Some, None, refl, sym, ap, subst, inl, inr, arith, codes}
use Rattle.std.specs.Prelude.{option_map, option_and_then, slice_get, unwrap_or, IsSome}
use Rattle.std.specs.List.{All, list_all, list_any, slice_index_or}
use Rattle.std.specs.Option.{IfSome}
use Rattle.std.specs.Str.{bytes_eq}
use Rattle.std.specs.Borrow.{Bor}
use Rattle.std.proofs.lemmas.Bool.{cases_lt}
use Rattle.std.proofs.lemmas.Bool.Decides.{Decides-eqb}
use Rattle.std.proofs.lemmas.List.Elements.{All-get_or}
use Rattle.std.proofs.lemmas.List.Folds.{Any-from_list_any, list_all-map}
use Rattle.std.proofs.lemmas.List.Sums.{AllPass-from_list_all}
use Rattle.std.proofs.lemmas.Slice.Eq.{bytes_eq-Decides}
use Rattle.clap.specs.Words.{HasMatchesOf, IsPlain, IsPlainArg, IsUnsignedIn, Rule, SameRules, Text, app_of, args_of, fault_of, first_of, first_value, found_of, is_simple, matched_of, one_of, one_text, read_as, reading_of, rows_of, rule_of, shape_of, is_buildable, is_present, is_simple_and_free, kind_of, HasKind, Kinds}
use Rattle.clap.specs.Values.{Accepts}
use Rattle.clap.specs.Walk.{is_empty, is_free_arg, is_simple_arg}
use Rattle.clap.specs.Simple.{has_simple_rules}
use Rattle.clap.specs.Built.{IsParsedFrom}
use Rattle.clap.specs.Facts.{Entry, EntryPasses, HasReading, PassesArg, MayBeEmpty, ValuesPass, least_values, parser_of, parser_of_value, unwrap_or_range}
use Rattle.clap.specs.declared.builder.action.ArgAction.{ArgAction}
use Rattle.clap.specs.declared.builder.action.ArgAction.TheVariants.{Count, Set}
use Rattle.clap.specs.declared.builder.arg.Arg.{Arg}
use Rattle.clap.specs.declared.builder.command.Command.{Command}
use Rattle.clap.specs.declared.builder.command.Command.TheViews.{out-Command}
use Rattle.clap.specs.declared.builder.range.ValueRange.{ValueRange}
use Rattle.clap.specs.declared.builder.value_parser.Reading.{Reading}
use Rattle.clap.specs.declared.builder.value_parser.ValueParser.{ValueParser}
use Rattle.clap.specs.declared.builder.value_parser.ValueParser.TheVariants as vp
use Rattle.clap.specs.declared.error.Error.{Error}
use Rattle.clap.specs.declared.error.kind.ErrorKind.TheVariants.{OutOfMemory}
use Rattle.clap.specs.declared.parser.matches.ArgMatches.{ArgMatches}
use Rattle.clap.specs.declared.parser.matches.MatchedArg.{MatchedArg}
use Rattle.clap.proofs.CallerLemmas.{entry_by_id, present_has_entry, required_present}
use Rattle.clap.proofs.WalkLemmas.{first_value-rows, one_text-rows, both, list_any-map}
use Rattle.clap.proofs.SimpleLemmas.{is_false, is_nil, plain_fields}
use Rattle.dk_command.specs.Found.{IsBetween, IsFlag, IsReadAs, all_named, is_between, is_bool, is_own, is_plain, is_set_action, takes_flag, takes_number, takes_one, wants_value}

-- a name that is neither empty nor one of the two flags that are added
own_cases : (name : Text) → is_own name ≡ true → (x : Text) → (x ≡ codes "help") ⊎ (x ≡ codes "version") → bytes_eq x name ≡ true → ⊥
own_cases name own x (inl is) same =
    let p = both (not (bytes_eq (codes "help") name)) (not (bytes_eq (codes "version") name)) (both (not (is_empty name)) _ own).1 in
    let no : bytes_eq (codes "help") name ≡ false = is_false _ p.0 in
    let yes : bytes_eq (codes "help") name ≡ true = subst (λ (y : Text). bytes_eq y name ≡ true) is same in
    let bad : false ≡ true = sym no ∙ yes in
    cc
own_cases name own x (inr is) same =
    let p = both (not (bytes_eq (codes "help") name)) (not (bytes_eq (codes "version") name)) (both (not (is_empty name)) _ own).1 in
    let no : bytes_eq (codes "version") name ≡ false = is_false _ p.1 in
    let yes : bytes_eq (codes "version") name ≡ true = subst (λ (y : Text). bytes_eq y name ≡ true) is same in
    let bad : false ≡ true = sym no ∙ yes in
    cc

not_empty : (name : Text) → is_own name ≡ true → name ≡ [] → ⊥
not_empty name own is =
    let no : is_empty name ≡ false = is_false _ (both (not (is_empty name)) _ own).0 in
    let bad : true ≡ false = subst (λ (y : Text). is_empty y ≡ false) is no in
    cc

-- a test that all rules pass, at an argument of the command
rule_at : (c : Command) (test : Rule → Bool) → list_all test (app_of c).top.rules ≡ true
    → (j : ℕ) (x : Arg) → j < length (args_of c) → test (rule_of (slice_index_or (args_of c) j x)) ≡ true
rule_at c test all j x under =
    AllPass-from_list_all (λ (a : Arg). test (rule_of a)) (args_of c) (sym (list_all-map test rule_of (args_of c)) ∙ all) j x under

-- what is known of a plain command
plain_arg : (a : Arg) → is_simple_arg a ≡ true → is_free_arg a ≡ true → IsPlainArg a
plain_arg a s f =
    let s0 = both (is_empty a.overrides.items) _ s in
    let s1 = both (is_empty a.default_vals_ifs.items) _ s0.1 in
    let s2 = both (is_empty a.groups.items) _ s1.1 in
    let f0 = both (not a.exclusive) _ f in
    let f1 = both (is_empty a.conflicts.items) _ f0.1 in
    (is_false _ f0.0, is_nil _ f1.0, is_nil _ s0.0, is_nil _ s2.0)

plain_command : (c : Command) → is_plain (app_of c) ≡ true
    → IsPlain c × ((out-Command c).has_globals ≡ false) × ((out-Command c).subcommand_negates_reqs ≡ false) × (is_simple (app_of c) ≡ true)
plain_command c plain =
    let h = both (is_simple_and_free (app_of c)) _ plain in
    let free = both (list_all (λ (r : Rule). r.is_free) (app_of c).top.rules) _ h.1 in
    let s = both (is_simple (app_of c)) _ h.0 in
    let b = both (is_buildable (app_of c)) _ s.0 in
    let t = both (has_simple_rules (app_of c).top) _ b.0 in
    let r = both (shape_of c).is_plain _ t.0 in
    let fields = plain_fields c r.0 in (
      (
        λ k d lt. plain_arg (slice_index_or (args_of c) k d) (rule_at c (λ (x : Rule). x.is_simple) r.1 k d lt) (rule_at c (λ (x : Rule). x.is_free) free.0 k d lt),
        fields.groups,
      ),
      fields.globals,
      is_false _ free.1,
      s.0,
    )

-- behind an argument of the built command stands one of the caller's, of which the test says what it says of its rule
caller_arg : (c : Command) (m : ArgMatches) (p : IsParsedFrom c m) (name : Text) (test : Rule → Bool) → is_own name ≡ true
    → all_named name test (app_of c) ≡ true
    → (j : ℕ) (x : Arg) → j < length (args_of p.built) → slice_index_or (args_of p.built) j x ≡ x → bytes_eq x.id.now name ≡ true
    → (a : Arg) × (test (rule_of a) ≡ true) × SameRules a x
caller_arg c m p name test own all j x high at same =
    elim (cases_lt j (length (args_of c))) [
      | inl under ↦
          let a = slice_index_or (args_of c) j x in
          let s : SameRules a x = subst (λ w. SameRules (slice_index_or (args_of c) j x) w) at (p.from.kept j x under).1 in
          let named : bytes_eq a.id.now name ≡ true = rw (← s.id) same in
          let passes : (not (bytes_eq a.id.now name) || test (rule_of a)) ≡ true = rule_at c (λ r. not (bytes_eq r.id name) || test r) all j x under in
          (a, rw named at passes, s)
      | inr over ↦
          let flag = subst (λ w. (w.id.now ≡ codes "help") ⊎ (w.id.now ≡ codes "version")) at (p.from.extra j x over high) in
          absurd (own_cases name own x.id.now flag same)
    ]

-- a value that passed the argument of the name passed this parser, where that is the argument's
accepted : (c : Command) (m : ArgMatches) (p : IsParsedFrom c m) (name : Text) (test : Rule → Bool) → is_own name ≡ true
    → all_named name test (app_of c) ≡ true → (q : ValueParser) → ((a : Arg) → test (rule_of a) ≡ true → a.value_parser ≡ Some q)
    → (v : Text) → PassesArg p.built name v → (b : Bool) × Accepts b q v
accepted c m p name test own all q parser v pass =
    let x = pass.1 in
    let a = caller_arg c m p name test own all pass.0 x pass.2 pass.3 pass.4.0 in
    let is_q : parser_of x ≡ q = ap parser_of_value (a.2.parser q (parser a.0 a.1)) in
    (x.ignore_case, subst (λ (w : ValueParser). Accepts x.ignore_case w v) is_q pass.4.1)

-- and it is read as that parser says
read_so : (c : Command) (m : ArgMatches) (p : IsParsedFrom c m) (name : Text) (test : Rule → Bool) → is_own name ≡ true
    → all_named name test (app_of c) ≡ true → (q : ValueParser) → ((a : Arg) → test (rule_of a) ≡ true → a.value_parser ≡ Some q)
    → (r : Reading) → HasReading p.built name r → r ≡ reading_of q
read_so c m p name test own all q parser r has =
    let x = has.1 in
    let a = caller_arg c m p name test own all has.0 x has.2 has.3 has.4.0 in
    let is_q : parser_of x ≡ q = ap parser_of_value (a.2.parser q (parser a.0 a.1)) in
    sym has.4.1 ∙ ap reading_of is_q

-- an entry of an argument is no group's
no_group : (c : Command) (name : Text) → IsPlain c → (name ≡ [] → ⊥) → (e : Entry) → e.0.now ≡ name → EntryPasses c e → e.1.is_group ≡ true → ⊥
no_group c name plain named e key pass group = elim (pass.3 group) [
  | inl empty ↦ named (sym key ∙ empty)
  | inr lots ↦
      let bad : 0 < 0 = subst (λ xs. 0 < length xs) plain.1 lots in
      absurd (omega arith)
]

-- the first text of a list of values of which all pass
head_text : (P : Text → Type 0) (how : Reading) (vs : List (Bor Text)) → All (λ v. P v.now) vs → (t : Text)
    → option_map (λ s. read_as how s.now) (slice_get vs 0) ≡ Some t → (v : Text) × (t ≡ read_as how v) × P v
head_text P how [] all t h = cc
head_text P how (v ∷ vs) all t h =
    (v.now, sym (ap (λ (o : Option Text). unwrap_or o t) h), All-get_or (λ (s : Bor Text). P s.now) (v ∷ vs) 0 v (omega arith) all)

-- what `get_one` reads of an argument with this parser is a text that passed it
entry_text : (c : Command) (name : Text) (q : ValueParser) → IsPlain c → (name ≡ [] → ⊥)
    → ((v : Text) → PassesArg c name v → (b : Bool) × Accepts b q v) → ((r : Reading) → HasReading c name r → r ≡ reading_of q)
    → (x : MatchedArg) (e : Entry) → e.1 ≡ x → e.0.now ≡ name → EntryPasses c e → (t : Text)
    → option_map (λ s. read_as x.reading s.now) (slice_get x.vals.items 0) ≡ Some t
    → (v : Text) × (t ≡ read_as (reading_of q) v) × ((b : Bool) × Accepts b q v)
entry_text c name q plain named passes reads x e same key pass t h =
    let none = no_group c name plain named e key pass in
    let all : All (λ v. PassesArg c name v.now) x.vals.items = elim pass.0 [
      | inl g ↦ absurd (none g)
      | inr vals ↦ subst (λ (w : Text). All (λ v. PassesArg c w v.now) x.vals.items) key (subst (λ (y : MatchedArg). All (λ v. PassesArg c e.0.now v.now) y.vals.items) same vals)
    ] in
    let is : e.1.reading ≡ reading_of q = elim pass.4 [
      | inl g ↦ absurd (none g)
      | inr has ↦ reads e.1.reading (subst (λ (w : Text). HasReading c w e.1.reading) key has)
    ] in
    let how : x.reading ≡ reading_of q = sym (ap (λ (y : MatchedArg). y.reading) same) ∙ is in
    let first = head_text (PassesArg c name) x.reading x.vals.items all t h in
    (first.0, first.1 ∙ ap (λ (r : Reading). read_as r first.0) how, passes first.0 first.2)

-- the same, of what was found
one_passes : (c : Command) (m : ArgMatches) (p : IsParsedFrom c m) → IsPlain p.built → ValuesPass p.built (found_of m) → (name : Text) (q : ValueParser)
    → (name ≡ [] → ⊥) → ((v : Text) → PassesArg p.built name v → (b : Bool) × Accepts b q v) → ((r : Reading) → HasReading p.built name r → r ≡ reading_of q)
    → (t : Text) → one_text (found_of m) name ≡ Some t
    → (v : Text) × (t ≡ read_as (reading_of q) v) × ((b : Bool) × Accepts b q v)
one_passes c m p plain values name q named passes reads t found = go (matched_of (found_of m) name) refl found
  where
    step : (x : MatchedArg) → option_map (λ s. read_as x.reading s.now) (slice_get x.vals.items 0) ≡ Some t
        → ((e : Entry) × (e.1 ≡ x) × (bytes_eq e.0.now name ≡ true) × EntryPasses p.built e)
        → (v : Text) × (t ≡ read_as (reading_of q) v) × ((b : Bool) × Accepts b q v)
    step x h got = entry_text p.built name q plain named passes reads x got.0 got.1 ((bytes_eq-Decides got.0.0.now name).0 got.2) got.3 t h

    go : (o : Option MatchedArg) → matched_of (found_of m) name ≡ o
        → option_and_then (λ (a : MatchedArg). option_map (λ s. read_as a.reading s.now) (slice_get a.vals.items 0)) (matched_of (found_of m) name) ≡ Some t
        → (v : Text) × (t ≡ read_as (reading_of q) v) × ((b : Bool) × Accepts b q v)
    go None e h =
        let bad : None ≡ Some t = rw e at h in
        cc
    go (Some x) e h = step x (rw e at h) (entry_by_id (EntryPasses p.built) (found_of m).entries.items name x values e)

-- the parsed command with its facts, of an argument with a parser
typed_text : (c : Command) (m : ArgMatches) → is_plain (app_of c) ≡ true → IsParsedFrom c m → (name : Text) (test : Rule → Bool) → is_own name ≡ true
    → all_named name test (app_of c) ≡ true → (q : ValueParser) → ((a : Arg) → test (rule_of a) ≡ true → a.value_parser ≡ Some q)
    → (t : Text) → one_of name (rows_of (found_of m)) ≡ Some t → (v : Text) × (t ≡ read_as (reading_of q) v) × ((b : Bool) × Accepts b q v)
typed_text c m plain p name test own all q parser t found =
    let facts = plain_command c plain in
    let parsed = p.parsed (p.from.globals ∙ facts.1) in
    one_passes c m p (p.from.plain facts.0) parsed.values name q (not_empty name own) (accepted c m p name test own all q parser)
    (read_so c m p name test own all q parser) t (one_text-rows (found_of m) name ∙ found)

between_is : (least most : ℕ) (o : Option ValueParser) → is_between least most o ≡ true → o ≡ Some (vp.Unsigned least most)
between_is least most None h = cc
between_is least most (Some (vp.Unsigned a b)) h =
    let p = both (a == least) (b == most) h in
    rw ((Decides-eqb a least).0 p.0, (Decides-eqb b most).0 p.1) refl
between_is least most (Some p) h = cc

bool_is : (o : Option ValueParser) → is_bool o ≡ true → o ≡ Some vp.Bool
bool_is None h = cc
bool_is (Some vp.Bool) h = refl
bool_is (Some p) h = cc

-- what holds of each text that an option may have
if_text : (o : Option Text) (P : Text → Type 0) → ((t : Text) → o ≡ Some t → P t) → IfSome o P
if_text None P h = tt
if_text (Some t) P h = h t refl

number_between : (c : Command) (m : ArgMatches) → is_plain (app_of c) ≡ true → IsParsedFrom c m → (name : Text) (least most : ℕ)
    → takes_number name least most (app_of c) ≡ true → IsBetween least most name (rows_of (found_of m))
unfolding takes_number IsBetween
number_between c m plain p name least most takes = if_text (one_of name (rows_of (found_of m))) (IsUnsignedIn least most) (λ t found.
    let own = both (is_own name) _ takes in
    let got = typed_text c m plain p name (λ r. is_between least most r.parser) own.0 own.1 (vp.Unsigned least most) (λ a h. between_is least most a.value_parser h) t found in
    subst (IsUnsignedIn least most) (sym got.1) got.2.1)

flag_is : (c : Command) (m : ArgMatches) → is_plain (app_of c) ≡ true → IsParsedFrom c m → (name : Text)
    → takes_flag name (app_of c) ≡ true → IsFlag name (rows_of (found_of m))
unfolding takes_flag IsFlag
flag_is c m plain p name takes = if_text (one_of name (rows_of (found_of m))) (Accepts false vp.Bool) (λ t found.
    let own = both (is_own name) _ takes in
    let got = typed_text c m plain p name (λ r. is_bool r.parser) own.0 own.1 vp.Bool (λ a h. bool_is a.value_parser h) t found in
    subst (Accepts false vp.Bool) (sym got.1) got.2.1)

-- ---- what has to be there

set_is : (o : Option ArgAction) → is_set_action o ≡ true → o ≡ Some Set
set_is None h = cc
set_is (Some Set) h = refl
set_is (Some x) h = cc

one_least : (a : Arg) → not (is_some a.num_vals) ≡ true → 1 ≤ least_values a
one_least a h = go a.num_vals h
  where
    go : (o : Option ValueRange) → not (is_some o) ≡ true → 1 ≤ (unwrap_or_range o).start_inclusive
    go None e = omega arith
    go (Some r) e = cc

none_of : {X : Type 0} (o : Option X) → not (is_some o) ≡ true → o ≡ None
none_of None h = refl
none_of (Some x) h = cc

no_delimiter : (a : Arg) → is_simple_arg a ≡ true → a.val_delim ≡ None
no_delimiter a s =
    let s0 = both (is_empty a.overrides.items) _ s in
    let s1 = both (is_empty a.default_vals_ifs.items) _ s0.1 in
    let s2 = both (is_empty a.groups.items) _ s1.1 in
    none_of a.val_delim (both (not (is_some a.val_delim)) _ s2.1).0

some_text : (vs : List (Bor Text)) → 0 < length vs → is_some (option_map (λ s. s.now) (slice_get vs 0)) ≡ true
some_text [] lt = absurd (omega arith)
some_text (v ∷ vs) lt = refl

-- the argument behind one of the built command does not count, and does not go without a value
never_none : (a x : Arg) → takes_one (rule_of a) ≡ true → SameRules a x → MayBeEmpty x → ⊥
never_none a x one s may =
    let t = both (is_set_action a.action) _ one in
    let u = both (not (is_some a.num_vals)) _ t.1 in
    elim may [
      | inl zero ↦
          let least : 1 ≤ least_values x = s.least (set_is a.action t.0) (one_least a u.0) in
          absurd (omega arith)
      | inr has ↦
          let none : x.val_delim ≡ None = s.val_delim ∙ no_delimiter a u.1 in
          let bad : false ≡ true = subst (λ (o : Option ℕ). is_some o ≡ true) none has in
          cc
    ]

never_counts : (a x : Arg) → takes_one (rule_of a) ≡ true → SameRules a x → unwrap_or x.action Set ≡ Count → ⊥
never_counts a x one s counts =
    let t = both (is_set_action a.action) _ one in
    let set : x.action ≡ Some Set = s.action Set (set_is a.action t.0) in
    let bad : Set ≡ Count = subst (λ (o : Option ArgAction). unwrap_or o Set ≡ Count) set counts in
    cc

-- the entry of an argument that has to have a value has one
entry_filled : (c : Command) (m : ArgMatches) (p : IsParsedFrom c m) → IsPlain p.built → (name : Text) → is_own name ≡ true
    → all_named name takes_one (app_of c) ≡ true → (x : MatchedArg) (e : Entry) → e.1 ≡ x → e.0.now ≡ name → EntryPasses p.built e
    → is_some (option_map (λ s. s.now) (slice_get x.vals.items 0)) ≡ true
entry_filled c m p plain name own all x e same key pass = elim pass.1 [
  | inl group ↦ absurd (no_group p.built name plain (not_empty name own) e key pass group.0)
  | inr (inl some) ↦ some_text x.vals.items (subst (λ (y : MatchedArg). 0 < length y.vals.items) same some)
  | inr (inr (inl counted)) ↦
      let any = counted.1 in
      let named : bytes_eq any.1.id.now name ≡ true = subst (λ (w : Text). bytes_eq any.1.id.now w ≡ true) key any.4.0 in
      let a = caller_arg c m p name takes_one own all any.0 any.1 any.2 any.3 named in
      absurd (never_counts a.0 any.1 a.1 a.2 any.4.1)
  | inr (inr (inr any)) ↦
      let named : bytes_eq any.1.id.now name ≡ true = subst (λ (w : Text). bytes_eq any.1.id.now w ≡ true) key any.4.0 in
      let a = caller_arg c m p name takes_one own all any.0 any.1 any.2 any.3 named in
      absurd (never_none a.0 any.1 a.1 a.2 any.4.1)
]

present_value : (c : Command) (m : ArgMatches) (p : IsParsedFrom c m) → IsPlain p.built → ValuesPass p.built (found_of m) → (name : Text) → is_own name ≡ true
    → all_named name takes_one (app_of c) ≡ true → is_some (matched_of (found_of m) name) ≡ true → is_some (first_value (found_of m) name) ≡ true
present_value c m p plain values name own all some = go (matched_of (found_of m) name) refl some
  where
    step : (x : MatchedArg) → ((e : Entry) × (e.1 ≡ x) × (bytes_eq e.0.now name ≡ true) × EntryPasses p.built e)
        → is_some (option_map (λ s. s.now) (slice_get x.vals.items 0)) ≡ true
    step x got = entry_filled c m p plain name own all x got.0 got.1 ((bytes_eq-Decides got.0.0.now name).0 got.2) got.3

    go : (o : Option MatchedArg) → matched_of (found_of m) name ≡ o → is_some (matched_of (found_of m) name) ≡ true → is_some (first_value (found_of m) name) ≡ true
    go None e h =
        let bad : false ≡ true = rw e at h in
        cc
    go (Some x) e h = rw e (step x (entry_by_id (EntryPasses p.built) (found_of m).entries.items name x values e))

value_given : (c : Command) (m : ArgMatches) → is_plain (app_of c) ≡ true → IsParsedFrom c m → (name : Text)
    → wants_value name (app_of c) ≡ true → IsSome (first_of name (rows_of (found_of m)))
unfolding wants_value
value_given c m plain p name wants =
    let own = both (is_own name) _ wants in
    let parts = both (list_any (λ (r : Rule). bytes_eq r.id name && r.required) (app_of c).top.rules) _ own.1 in
    let facts = plain_command c plain in
    let parsed = p.parsed (p.from.globals ∙ facts.1) in
    let any = Any-from_list_any (λ (a : Arg). bytes_eq a.id.now name && a.required) (args_of c)
    (list_any-map (λ (r : Rule). bytes_eq r.id name && r.required) rule_of (args_of c) ∙ parts.0) in
    let test = both (bytes_eq any.1.id.now name) any.1.required any.4 in
    let required : (slice_index_or (args_of c) any.0 any.1).required ≡ true = subst (λ (a : Arg). a.required ≡ true) (sym any.3) test.1 in
    let present = required_present c m p facts.0 facts.1 facts.2 any.0 any.1 any.2 required in
    let named : (slice_index_or (args_of c) any.0 any.1).id.now ≡ name = ap (λ (a : Arg). a.id.now) any.3 ∙ (bytes_eq-Decides any.1.id.now name).0 test.0 in
    let there : is_present (found_of m) name ≡ true = subst (λ (w : Text). is_present (found_of m) w ≡ true) named present in
    let value = present_value c m p (p.from.plain facts.0) parsed.values name own.0 parts.1 (present_has_entry (found_of m) name there) in
    subst (λ (o : Option Text). is_some o ≡ true) (first_value-rows (found_of m) name) value

-- ---- together

pub read_as_grammar : (c : Command) (m : ArgMatches) (words : List Text) → is_plain (app_of c) ≡ true → IsParsedFrom c m
    → HasMatchesOf (app_of c) words m → fault_of (app_of c) words ≡ [] → IsReadAs (app_of c) words m
read_as_grammar c m words plain p found taken = record {
  taken = taken;
  rows = (found (plain_command c plain).3).0;
  numbers = λ name least most takes. number_between c m plain p name least most takes;
  flags = λ name takes. flag_is c m plain p name takes;
  given = λ name wants. value_given c m plain p name wants;
}

-- an error of another kind than want of memory shows a fault
pub shows_fault : (faults : Kinds) (e : Error) → HasKind faults e → (kind_of e ≡ OutOfMemory → ⊥) → faults ≡ [] → ⊥
shows_fault [] e h other is = elim h [ inl memory ↦ other memory | inr among ↦ absurd among ]
shows_fault (k ∷ ks) e h other is = cc
