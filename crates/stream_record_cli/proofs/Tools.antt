-- What the tool gives, by what it read and wrote.
use Rattle.std.proofs.Common.{◌≡◌, ◌∙◌, ℕ, [], Bool, true, false, List, Option, None, Some, Result, Ok, Err, ap, inl, inr, refl, subst, sym}
use Rattle.std.specs.Prelude.{◌||◌, ◌==◌, if◌then◌else◌, option_map, string_bytes}
use Rattle.std.specs.Io.Buffered.{reader_buffer, reader_capacity, reader_remaining}
use Rattle.std.specs.Io.KnownBytes.{prepend_known}
use Rattle.std.specs.declared.io.buffered.BufReader.{BufReader}
use Rattle.input_files.specs.Inputs.{IsInputOf}
use Rattle.stream_record_cli.specs.Alone as alone
use Rattle.stream_record_cli.specs.Chosen.{choice_of}
use Rattle.stream_record_cli.specs.Inputs.{IsGraphOf, IsOfRead, IsOfStream, IsStreamOf, is_dash, is_dash_or_none, left_by, left_for_stream}
use Rattle.stream_record_cli.specs.Outcomes.{HasOutcome}
use Rattle.stream_record_cli.specs.Recorded.{IsRefused, IsScriptOfStream}
use Rattle.stream_record_cli.specs.Tools.{HasOutcomeOf, HasRecorded, HasRecordedStream}
use Rattle.stream_record_cli.specs.declared.command.inputs.Inputs.{Inputs}
use Rattle.stream_record_cli.specs.declared.command.recording.StreamChoice.{StreamChoice}
use Rattle.stream_record_cli.specs.declared.command.settings.Settings.{Settings}
use Rattle.stream_record_cli.specs.declared.record_fault.RecordFault.{RecordFault}
use Rattle.stream_record_cli.specs.declared.record_fault.RecordFault.TheVariants as fault

-- ---- nothing is known of the stream

module _ (plan : List ℕ) (graph : Option (List ℕ)) (choice : StreamChoice) (stream before after : Option (List ℕ)) (status : ℕ) where
  refused_anyway : (why : RecordFault) → IsRefused plan graph choice stream why → IsRefused plan graph choice None why
  refused_anyway (fault.Input why) is = is
  refused_anyway (fault.Plan why) is = is
  refused_anyway (fault.Graph why) (inl is) = inl is
  refused_anyway (fault.Graph why) (inr is) = inr tt
  refused_anyway (fault.Stream why) is = tt
  refused_anyway (fault.NoRun missing) is = tt
  refused_anyway fault.TooLarge is = tt
  refused_anyway fault.Memory is = tt
  refused_anyway fault.Gone is = is
  refused_anyway fault.Unwritten is = is

  forgotten : (answer : Result (Unit {0}) RecordFault)
      → HasOutcome (IsScriptOfStream plan graph choice stream) (IsRefused plan graph choice stream) before after status answer
      → HasOutcome (IsScriptOfStream plan graph choice None) (IsRefused plan graph choice None) before after status answer
  forgotten (Ok done) came = record { text = came.text; warnings = came.warnings; is = tt; written = came.written; status_is = came.status_is }
  forgotten (Err (fault.Input why)) came = came
  forgotten (Err (fault.Plan why)) came = (came.0, refused_anyway (fault.Plan why) came.1)
  forgotten (Err (fault.Graph why)) came = (came.0, refused_anyway (fault.Graph why) came.1)
  forgotten (Err (fault.Stream why)) came = (came.0, refused_anyway (fault.Stream why) came.1)
  forgotten (Err (fault.NoRun missing)) came = (came.0, refused_anyway (fault.NoRun missing) came.1)
  forgotten (Err fault.TooLarge) came = (came.0, refused_anyway fault.TooLarge came.1)
  forgotten (Err fault.Memory) came = came
  forgotten (Err fault.Gone) came = (came.0, record { text = came.1.text; warnings = came.1.warnings; is = tt; count = came.1.count; written = came.1.written })
  forgotten (Err fault.Unwritten) came = (came.0, record { text = came.1.text; warnings = came.1.warnings; is = tt; count = came.1.count; written = came.1.written })

-- ---- the stream that was read

module _ {File : Type 0} (remaining : File → Option (List ℕ)) (settings : Settings) (given before after : Option (List ℕ)) (answer : Result (Unit {0}) RecordFault) (status : ℕ) where
  abbrev CameOf : (plan : List ℕ) → (graph : Option (List ℕ)) → (stream : Option (List ℕ)) → Type 0
  CameOf plan graph stream =
      HasOutcome (IsScriptOfStream plan graph (choice_of settings) stream) (IsRefused plan graph (choice_of settings) stream) before after status answer

  shared : (plan : List ℕ) (graph : Option (List ℕ)) (left stream : Option (List ℕ)) (name : Option (List ℕ))
      → IsStreamOf remaining left name stream → CameOf plan graph stream
      → (found : Option (List ℕ)) × IsStreamOf remaining None name found × CameOf plan graph found
  shared plan graph left stream None is came = (None, refl, forgotten plan graph (choice_of settings) stream before after status answer came)
  shared plan graph left stream (Some name) is came = (stream, is, came)

  -- standard input was left as it was, or it is the plan or the graph
  pub of_stream : (plan : List ℕ) (graph : Option (List ℕ)) (left stream : Option (List ℕ))
      → (is_dash (string_bytes settings.plan) ≡ false → is_dash_or_none (option_map string_bytes settings.graph) ≡ false → left ≡ given)
      → IsStreamOf remaining left (option_map string_bytes settings.file) stream → CameOf plan graph stream
      → IsOfStream remaining settings given (CameOf plan graph)
  of_stream plan graph left stream kept is came = by (is_dash (string_bytes settings.plan)) (is_dash_or_none (option_map string_bytes settings.graph)) refl refl
    where
      none : left_for_stream settings given ≡ None → IsOfStream remaining settings given (CameOf plan graph)
      none is_none = let found = shared plan graph left stream (option_map string_bytes settings.file) is came in
          record {
            stream = found.0;
            is = subst (λ (o : Option (List ℕ)). IsStreamOf remaining o (option_map string_bytes settings.file) found.0) (sym is_none) found.1;
            so = found.2;
          }

      by : (p q : Bool) → is_dash (string_bytes settings.plan) ≡ p → is_dash_or_none (option_map string_bytes settings.graph) ≡ q
          → IsOfStream remaining settings given (CameOf plan graph)
      by true q plan_is graph_is = none (ap (λ (b : Bool). if b || is_dash_or_none (option_map string_bytes settings.graph) then None else given) plan_is)
      by false true plan_is graph_is =
          none (ap (λ (b : Bool). if b || is_dash_or_none (option_map string_bytes settings.graph) then None else given) plan_is
          ∙ ap (λ (b : Bool). if b then None else given) graph_is)
      by false false plan_is graph_is =
          let same : left_for_stream settings given ≡ given =
          ap (λ (b : Bool). if b || is_dash_or_none (option_map string_bytes settings.graph) then None else given) plan_is
          ∙ ap (λ (b : Bool). if b then None else given) graph_is in
          record {
            stream = stream;
            is = subst (λ (o : Option (List ℕ)). IsStreamOf remaining o (option_map string_bytes settings.file) stream) (kept plan_is graph_is ∙ sym same) is;
            so = came;
          }

-- what became of a stream
pub of_came : {File : Type 0} (remaining : File → Option (List ℕ)) (settings : Settings) (inputs : Inputs) (left stream before after : Option (List ℕ))
    (answer : Result (Unit {0}) RecordFault) (status : ℕ) (choice : StreamChoice) (plan : List ℕ) (graph : Option (List ℕ))
    → choice ≡ choice_of settings → plan ≡ inputs.plan.bytes.items → graph ≡ option_map (λ read. read.bytes.items) inputs.graph
    → IsStreamOf remaining left (option_map string_bytes settings.file) stream
    → HasOutcome (IsScriptOfStream plan graph choice stream) (IsRefused plan graph choice stream) before after status answer
    → HasRecordedStream remaining settings inputs left before after answer status
of_came remaining settings inputs left stream before after answer status choice plan graph choice_is plan_is graph_is is came =
    found answer (subst (λ (g : Option (List ℕ)).
    HasOutcome (IsScriptOfStream inputs.plan.bytes.items g (choice_of settings) stream) (IsRefused inputs.plan.bytes.items g (choice_of settings) stream) before after status answer) graph_is
    (subst (λ (p : List ℕ). HasOutcome (IsScriptOfStream p graph (choice_of settings) stream) (IsRefused p graph (choice_of settings) stream) before after status answer) plan_is
    (subst (λ (c : StreamChoice). HasOutcome (IsScriptOfStream plan graph c stream) (IsRefused plan graph c stream) before after status answer) choice_is came)))
  where
    found : (a : Result (Unit {0}) RecordFault)
        → HasOutcome (IsScriptOfStream inputs.plan.bytes.items (option_map (λ read. read.bytes.items) inputs.graph) (choice_of settings) stream)
        (IsRefused inputs.plan.bytes.items (option_map (λ read. read.bytes.items) inputs.graph) (choice_of settings) stream) before after status a
        → HasRecordedStream remaining settings inputs left before after a status
    found (Ok done) h = (stream, is, h)
    found (Err (fault.Input why)) h = absurd h
    found (Err (fault.Plan why)) h = (stream, is, h)
    found (Err (fault.Graph why)) h = (stream, is, h)
    found (Err (fault.Stream why)) h = (stream, is, h)
    found (Err (fault.NoRun missing)) h = (stream, is, h)
    found (Err fault.TooLarge) h = (stream, is, h)
    found (Err fault.Memory) h = h
    found (Err fault.Gone) h = (stream, is, h)
    found (Err fault.Unwritten) h = (stream, is, h)

-- ---- the plan and the graph that were read

module _ {File : Type 0} (remaining : File → Option (List ℕ)) (settings : Settings) (inputs : Inputs) (given before after : Option (List ℕ)) (status : ℕ)
    (plan_read : IsInputOf remaining given (string_bytes settings.plan) inputs.plan.bytes.items)
    (graph_read : IsGraphOf remaining (left_by (string_bytes settings.plan) given) (option_map string_bytes settings.graph) (option_map (λ read. read.bytes.items) inputs.graph)) where
  read_so : (IsSo : List ℕ → Option (List ℕ) → Type 0) → IsSo inputs.plan.bytes.items (option_map (λ read. read.bytes.items) inputs.graph)
      → IsOfRead remaining settings given IsSo
  read_so IsSo so = record {
    plan = inputs.plan.bytes.items;
    plan_read = plan_read;
    graph = option_map (λ read. read.bytes.items) inputs.graph;
    graph_read = graph_read;
    so = so;
  }

  with_plan : (answer : Result (Unit {0}) RecordFault) (only_plan : Bool) → settings.only_plan ≡ only_plan
      → HasOutcomeOf remaining settings given before after answer status only_plan inputs.plan.bytes.items (option_map (λ read. read.bytes.items) inputs.graph)
      → IsOfRead remaining settings given (λ plan graph. HasOutcomeOf remaining settings given before after answer status settings.only_plan plan graph)
  with_plan answer only_plan is so =
      read_so (HasOutcomeOf remaining settings given before after answer status settings.only_plan)
      (subst (λ (b : Bool). HasOutcomeOf remaining settings given before after answer status b inputs.plan.bytes.items (option_map (λ read. read.bytes.items) inputs.graph)) (sym is) so)

  -- the script of the plan alone
  pub of_plan : (answer : Result (Unit {0}) RecordFault) (plan : List ℕ) (graph : Option (List ℕ)) → settings.only_plan ≡ true
      → plan ≡ inputs.plan.bytes.items → graph ≡ option_map (λ read. read.bytes.items) inputs.graph
      → HasOutcome (alone.IsScript plan graph) (alone.IsRefused plan graph) before after status answer → HasRecorded remaining settings given before after answer status
  of_plan answer plan graph only plan_is graph_is came =
      found answer (subst (λ (g : Option (List ℕ)). HasOutcome (alone.IsScript inputs.plan.bytes.items g) (alone.IsRefused inputs.plan.bytes.items g) before after status answer) graph_is
      (subst (λ (p : List ℕ). HasOutcome (alone.IsScript p graph) (alone.IsRefused p graph) before after status answer) plan_is came))
    where
      found : (a : Result (Unit {0}) RecordFault)
          → HasOutcome (alone.IsScript inputs.plan.bytes.items (option_map (λ read. read.bytes.items) inputs.graph))
          (alone.IsRefused inputs.plan.bytes.items (option_map (λ read. read.bytes.items) inputs.graph)) before after status a
          → HasRecorded remaining settings given before after a status
      found (Ok done) h = with_plan (Ok done) true only h
      found (Err (fault.Input why)) h = absurd h
      found (Err (fault.Plan why)) h = with_plan (Err (fault.Plan why)) true only h
      found (Err (fault.Graph why)) h = with_plan (Err (fault.Graph why)) true only h
      found (Err (fault.Stream why)) h = with_plan (Err (fault.Stream why)) true only h
      found (Err (fault.NoRun missing)) h = with_plan (Err (fault.NoRun missing)) true only h
      found (Err fault.TooLarge) h = with_plan (Err fault.TooLarge) true only h
      found (Err fault.Memory) h = h
      found (Err fault.Gone) h = with_plan (Err fault.Gone) true only h
      found (Err fault.Unwritten) h = with_plan (Err fault.Unwritten) true only h

  -- the script of a stream
  pub of_apply : (left : Option (List ℕ)) (answer : Result (Unit {0}) RecordFault) → settings.only_plan ≡ false
      → (is_dash (string_bytes settings.plan) ≡ false → is_dash_or_none (option_map string_bytes settings.graph) ≡ false → left ≡ given)
      → HasRecordedStream remaining settings inputs left before after answer status → HasRecorded remaining settings given before after answer status
  of_apply left (Ok done) only kept h = with_plan (Ok done) false only (of_stream remaining settings given before after (Ok done) status inputs.plan.bytes.items (option_map (λ read. read.bytes.items) inputs.graph) left h.0 kept h.1 h.2)
  of_apply left (Err (fault.Input why)) only kept h = h
  of_apply left (Err (fault.Plan why)) only kept h =
      with_plan (Err (fault.Plan why)) false only (of_stream remaining settings given before after (Err (fault.Plan why)) status inputs.plan.bytes.items (option_map (λ read. read.bytes.items) inputs.graph) left h.0 kept h.1 h.2)
  of_apply left (Err (fault.Graph why)) only kept h =
      with_plan (Err (fault.Graph why)) false only (of_stream remaining settings given before after (Err (fault.Graph why)) status inputs.plan.bytes.items (option_map (λ read. read.bytes.items) inputs.graph) left h.0 kept h.1 h.2)
  of_apply left (Err (fault.Stream why)) only kept h =
      with_plan (Err (fault.Stream why)) false only (of_stream remaining settings given before after (Err (fault.Stream why)) status inputs.plan.bytes.items (option_map (λ read. read.bytes.items) inputs.graph) left h.0 kept h.1 h.2)
  of_apply left (Err (fault.NoRun missing)) only kept h =
      with_plan (Err (fault.NoRun missing)) false only (of_stream remaining settings given before after (Err (fault.NoRun missing)) status inputs.plan.bytes.items (option_map (λ read. read.bytes.items) inputs.graph) left h.0 kept h.1 h.2)
  of_apply left (Err fault.TooLarge) only kept h =
      with_plan (Err fault.TooLarge) false only (of_stream remaining settings given before after (Err fault.TooLarge) status inputs.plan.bytes.items (option_map (λ read. read.bytes.items) inputs.graph) left h.0 kept h.1 h.2)
  of_apply left (Err fault.Memory) only kept h = h
  of_apply left (Err fault.Gone) only kept h =
      with_plan (Err fault.Gone) false only (of_stream remaining settings given before after (Err fault.Gone) status inputs.plan.bytes.items (option_map (λ read. read.bytes.items) inputs.graph) left h.0 kept h.1 h.2)
  of_apply left (Err fault.Unwritten) only kept h =
      with_plan (Err fault.Unwritten) false only (of_stream remaining settings given before after (Err fault.Unwritten) status inputs.plan.bytes.items (option_map (λ read. read.bytes.items) inputs.graph) left h.0 kept h.1 h.2)

-- ---- a file whose reader is new

unread : (known : Option (List ℕ)) → prepend_known [] known ≡ known
unread None = refl
unread (Some bytes) = refl

pub fresh : {T A : Type 0} (remaining : T → Option (List ℕ)) (reader : BufReader T A) (file : T)
    → reader_capacity reader ≡ 65536 → reader_buffer reader ≡ [] → reader.inner ≡ file → reader_remaining remaining reader ≡ remaining file
fresh remaining reader file room empty inner =
    ap (λ (n : ℕ). if n == 0 then None else prepend_known (reader_buffer reader) (remaining reader.inner)) room
    ∙ ap (λ (bytes : List ℕ). prepend_known bytes (remaining reader.inner)) empty
    ∙ unread (remaining reader.inner)
    ∙ ap remaining inner
