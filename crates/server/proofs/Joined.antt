-- One link from its first frame on, put together from what its parts say.
use Rattle.std.proofs.Common.{◌≡◌, ◌≢◌, ◌∙◌, ◌⊎◌, inl, inr, ℕ, Bool, false, List, [], Option, Some, None, IfSome, refl, sym, ap, subst}
use Rattle.rs_wire.specs.declared.settings.Settings.{Settings}
use Rattle.rs_frame.specs.declared.frame.Frame.{Frame}
use Rattle.rs_frame.specs.declared.frame.Frame.TheVariants as frame
use Rattle.rs_frame.specs.Framed.{framed_frame}
use Rattle.rs_frame.specs.Spelling.{Spells}
use Rattle.rs_chunk.specs.Stream.{IsWhole, first_frame}
use Rattle.outside.specs.Links.{Shown}
use Rattle.tape.specs.declared.answer.Answer.{Answer}
use Rattle.tape.specs.declared.answer.Answer.TheVariants as answer
use Rattle.session_model.specs.Frames.{refusal}
use Rattle.session_model.specs.Lists.{IsPrefix}
use Rattle.conn_shared.specs.Members.{Knowledge}
use Rattle.link_model.specs.Reading.{BeginsBad, IsPart}
use Rattle.link_model.proofs.Bytes.{if_some}
use Rattle.link_laws.specs.Unopened.{Earns, IsTurnedAway, bad_first, turned_away_by}
use Rattle.handlers.specs.Listed.{Listed}
use Rattle.workers.specs.declared.job.OpenJob.{OpenJob}
use Rattle.workers.specs.Serving.{AreRouted}
use Rattle.server.specs.Attended.{IsFirstOf}
use Rattle.server.specs.Attending.{AreRoutedIn}
use Rattle.server.specs.First.{FirstFor}
use Rattle.server.specs.declared.first.First.{First}
use Rattle.server.specs.declared.first.First.TheVariants as firsts
use Rattle.server.specs.Opening.{AreBack, IsFirst, OpensAt, TriesToOpen, begins_by, fronts, resumes, wish_of}
use Rattle.server.specs.Refusing.{GivesAll, GivesFor, refused_by, told_as}
use Rattle.server.specs.declared.served.Served.{Served}
use Rattle.server.specs.declared.served.Served.TheVariants as served
use Rattle.server.specs.Serving.{Adds, IsLeft, IsRefusedBy, IsUnopened, KeepsServing, LeavesUnbegun, NoneOpened, ServedFor, ServedSo, is_resume, unbegun_by}
use Rattle.server.proofs.Places.{back_same}
use Rattle.server.proofs.Turned.{full_one, full_tries, gave_all, gave_none, in_one, told_full, turned_by, turned_tries}

-- ---- out of memory, or not

is_out : (s : Served) → (s ≡ served.OutOfMemory) ⊎ (s ≢ served.OutOfMemory)
is_out served.OutOfMemory = inl refl
is_out _ = inr (λ is. cc)

-- the work is as before
work_none : (routes : List Listed) (olds news : List Knowledge) (work : Option (List OpenJob)) (s : Served) → KeepsServing routes olds news work work (s, None)
work_none routes olds news None s = refl
work_none routes olds news (Some work) s = refl

left_none : (g : Settings) (news : List Knowledge) (link : Shown) (s : Served) → IsLeft g news link (s, None)
left_none g news link served.OutOfMemory = tt
left_none g news link _ = tt

-- of memory that ran out before a connection was opened nothing else is said
out_so : (g : Settings) (moments : Option (List ℕ)) (helps : Bool) (grant : Option ℕ) (slot : ℕ) (routes : List Listed) (olds news : List Knowledge) (work : Option (List OpenJob)) (link : Shown) (s : Served) → s ≡ served.OutOfMemory → AreBack olds news
    → Adds g moments helps grant slot olds news link (s, None) → ServedSo g moments helps grant slot routes olds news work work link (s, None)
out_so g moments helps grant slot routes olds news work link s is back added =
    subst (λ (v : Served). ServedSo g moments helps grant slot routes olds news work work link (v, None)) (sym is) (record {
      same = back;
      added = added;
      carried = tt;
      left = tt;
      unopened = tt;
      cause = tt;
      work = work_none routes olds news work served.OutOfMemory;
    })

-- no memory before an opening was tried
pub nothing_so : (g : Settings) (moments : Option (List ℕ)) (helps : Bool) (grant : Option ℕ) (slot : ℕ) (routes : List Listed) (olds news : List Knowledge) (work : Option (List OpenJob)) (link : Shown) → news ≡ olds → ServedSo g moments helps grant slot routes olds news work work link (served.OutOfMemory, None)
nothing_so g moments helps grant slot routes olds news work link same = out_so g moments helps grant slot routes olds news work link served.OutOfMemory refl (subst (AreBack olds) (sym same) (back_same olds)) (inl same)

-- the routes of no jobs are found
pub idle_routed : (routes : List Listed) (jobs : Option (List OpenJob)) → IfSome jobs (λ work. work ≡ []) → AreRoutedIn routes jobs
idle_routed routes None idle = tt
idle_routed routes (Some work) idle = subst (AreRouted routes) (sym idle) tt

-- ---- no first frame

-- what a link is given that begins with no frame
turned_bad : (g : Settings) (past : List Knowledge) (old link : Shown) (bytes : List ℕ) (number : ℕ) → IfSome old.taken (λ taken. taken ≡ bytes) → IfSome old.given (λ given. given ≡ []) → BeginsBad number g.max_in bytes → link.taken ≡ old.taken
    → GivesAll old link (framed_frame (bad_first number)) → IsTurnedAway g.max_in (fronts past) link
turned_bad g past old link bytes number taken none begins same gives =
    let gave = gave_all old link (framed_frame (bad_first number)) none gives in
    record {
      error = bad_first number;
      earned = subst (λ o. IfSome o (λ b. Earns g.max_in (fronts past) b (bad_first number))) (sym same) (if_some old.taken (λ (b : List ℕ) (is : b ≡ bytes). inl (number, subst (BeginsBad number g.max_in) (sym is) begins, refl)) taken);
      begins = gave.begins;
      whole = gave.whole;
    }

-- a link without a first frame, that is not bad
pub record Unbegun (g : Settings) (moments : Option (List ℕ)) (slot : ℕ) (past : List Knowledge) (link : Shown) (s : Served) : Type 0 where
  pub unopened : IsUnopened g moments past link (s, None)
  pub cause : ServedFor g moments slot past past link (s, None)

unbegun_is : (g : Settings) (moments : Option (List ℕ)) (slot : ℕ) (past : List Knowledge) (old link : Shown) (bytes : List ℕ) (first : First) (s : Served) → IfSome old.taken (λ taken. taken ≡ bytes) → IfSome old.given (λ given. given ≡ [])
    → FirstFor moments g.lifetime_ms old bytes g.max_in first → LeavesUnbegun first old link s → s ≢ served.OutOfMemory → Unbegun g moments slot past link (unbegun_by first)
unbegun_is g moments slot past old link bytes (firsts.Bad rule) s taken none cause leaves some = record {
  unopened = inl (turned_bad g past old link bytes rule taken none cause leaves.0 (leaves.1 some));
  cause = subst (λ o. IfSome o (BeginsBad rule g.max_in)) (sym leaves.0) (if_some old.taken (λ (b : List ℕ) (is : b ≡ bytes). subst (BeginsBad rule g.max_in) (sym is) cause) taken);
}
unbegun_is g moments slot past old link bytes (firsts.NoFirst now) s taken none cause leaves some = subst (λ (l : Shown). Unbegun g moments slot past l (served.NoFirst now)) (sym leaves) (record {
  unopened = inr (inl (record {
    part = if_some old.taken (λ (b : List ℕ) (is : b ≡ bytes). subst (λ x. IsPart x g.max_in) (sym is) cause.0) taken;
    nothing = none;
    why = inr (cause.1, record { start = cause.2.0; now = now; first = cause.2.1; last = cause.2.2; apart = cause.2.3 });
  }));
  cause = (cause.1, cause.2);
})
unbegun_is g moments slot past old link bytes firsts.End s taken none cause leaves some = subst (λ (l : Shown). Unbegun g moments slot past l served.End) (sym leaves) (record {
  unopened = inr (inl (record {
    part = if_some old.taken (λ (b : List ℕ) (is : b ≡ bytes). subst (λ x. IsPart x g.max_in) (sym is) cause.0) taken;
    nothing = none;
    why = inl (inr cause.1);
  }));
  cause = cause.1;
})
unbegun_is g moments slot past old link bytes firsts.LinkFault s taken none cause leaves some = subst (λ (l : Shown). Unbegun g moments slot past l served.LinkFault) (sym leaves) (record {
  unopened = inr (inl (record {
    part = if_some old.taken (λ (b : List ℕ) (is : b ≡ bytes). subst (λ x. IsPart x g.max_in) (sym is) cause.0) taken;
    nothing = none;
    why = inl (inl cause.1);
  }));
  cause = cause.1;
})
unbegun_is g moments slot past old link bytes firsts.OutOfMemory s taken none cause leaves some = record { unopened = tt; cause = tt }
unbegun_is g moments slot past old link bytes (firsts.Frame f) s taken none cause leaves some = record { unopened = tt; cause = tt }

-- all that is said of a link without a first frame
pub unbegun_so : (g : Settings) (moments : Option (List ℕ)) (helps : Bool) (grant : Option ℕ) (slot : ℕ) (routes : List Listed) (past : List Knowledge) (work : Option (List OpenJob)) (old link : Shown) (bytes : List ℕ) (first : First) (s : Served)
    → (first ≢ firsts.OutOfMemory → IfSome old.taken (λ taken. taken ≡ bytes)) → IfSome old.given (λ given. given ≡ []) → FirstFor moments g.lifetime_ms old bytes g.max_in first → LeavesUnbegun first old link s
    → (s ≢ served.OutOfMemory → s ≡ unbegun_by first) → ServedSo g moments helps grant slot routes past past work work link (s, None)
unbegun_so g moments helps grant slot routes past work old link bytes first s taken none cause leaves says = by (is_out s)
  where
    by : (s ≡ served.OutOfMemory) ⊎ (s ≢ served.OutOfMemory) → ServedSo g moments helps grant slot routes past past work work link (s, None)
    by (inl is) = out_so g moments helps grant slot routes past past work link s is (back_same past) (inl refl)
    by (inr some) =
        let is = says some in
        let read : IfSome old.taken (λ taken. taken ≡ bytes) = taken (λ out. some (is ∙ ap unbegun_by out)) in
        let u = unbegun_is g moments slot past old link bytes first s read none cause leaves some in
        subst (λ (v : Served). ServedSo g moments helps grant slot routes past past work work link (v, None)) (sym is) (record {
          same = back_same past;
          added = inl refl;
          carried = tt;
          left = left_none g past link (unbegun_by first);
          unopened = u.unopened;
          cause = u.cause;
          work = work_none routes past past work (unbegun_by first);
        })

-- ---- an opening that was not accepted

-- the bytes taken begin with the first frame
first_of : (most : ℕ) (old link : Shown) (first : Frame) (bytes : List ℕ) → IsFirstOf first bytes most old → link.taken ≡ old.taken → IsFirst most link first
first_of most old link first bytes f same = subst (λ o. IfSome o (λ b. IsWhole b most × Spells first (first_frame b))) (sym same)
    (if_some old.taken (λ (b : List ℕ) (is : b ≡ bytes). subst (λ x. IsWhole x most × Spells first (first_frame x)) (sym is) (f.whole, f.spelled)) f.taken)

-- what is known of a link whose opening was not accepted, and is told as this refusal
pub record Refuses (g : Settings) (moments : Option (List ℕ)) (slot at : ℕ) (olds news : List Knowledge) (old link : Shown) (first : Frame) (bytes : List ℕ) (met told : Answer) : Type 0 where
  pub back : AreBack olds news
  pub begins : IsFirstOf first bytes g.max_in old
  pub opens : OpensAt g moments slot at olds news first met
  pub refused : (c : ℕ) → met ≢ answer.Opened c
  pub is : told ≡ told_as (resumes first) met
  pub taken : link.taken ≡ old.taken

error_of : (first : Frame) (met told : Answer) (error : Frame) → told ≡ told_as (resumes first) met → refusal told ≡ Some error → turned_away_by first met ≡ Some error
error_of first met told error is says = turned_by first met ∙ (ap refusal (sym is) ∙ says)

error_back : (first : Frame) (met told : Answer) (error : Frame) → told ≡ told_as (resumes first) met → turned_away_by first met ≡ Some error → refusal told ≡ Some error
error_back first met told error is says = ap refusal is ∙ (sym (turned_by first met) ∙ says)

gives_for : (old link : Shown) (told : Answer) (error : Frame) → refusal told ≡ Some error → GivesFor (refusal told) old link → GivesAll old link (framed_frame error)
gives_for old link told error is gives = subst (λ (o : Option Frame). GivesFor o old link) is gives

none_opened : (g : Settings) (moments : Option (List ℕ)) (slot at : ℕ) (olds news : List Knowledge) (old link : Shown) (first : Frame) (bytes : List ℕ) (met told : Answer) → Refuses g moments slot at olds news old link first bytes met told
    → (link.given ≡ old.given) ⊎ GivesFor (refusal told) old link → NoneOpened g moments slot olds news link
none_opened g moments slot at olds news old link first bytes met told r gives = record {
  at = at;
  first = first;
  is_first = first_of g.max_in old link first bytes r.begins r.taken;
  met = met;
  opens = r.opens;
  refused = r.refused;
  given = λ error says. by error says gives;
}
  where
    by : (error : Frame) → turned_away_by first met ≡ Some error → (link.given ≡ old.given) ⊎ GivesFor (refusal told) old link → IfSome link.given (λ b. IsPrefix b (framed_frame error))
    by error says (inl same) = gave_none old link (framed_frame error) r.begins.ungiven same
    by error says (inr gave) = (gave_all old link (framed_frame error) r.begins.ungiven (gives_for old link told error (error_back first met told error r.is says) gave)).begins

-- a link that was turned away with that ERROR
turned_so : (g : Settings) (moments : Option (List ℕ)) (slot at : ℕ) (olds news : List Knowledge) (old link : Shown) (first : Frame) (bytes : List ℕ) (met told : Answer) (error : Frame) → Refuses g moments slot at olds news old link first bytes met told
    → refusal told ≡ Some error → GivesFor (refusal told) old link → IsTurnedAway g.max_in (fronts news) link
turned_so g moments slot at olds news old link first bytes met told error r says gives =
    let gave = gave_all old link (framed_frame error) r.begins.ungiven (gives_for old link told error says gives) in
    let stands = in_one first error news at r.opens.new r.opens.is (turned_tries g moments r.opens.old first error r.opens.taken met r.opens.new.front r.opens.tries (error_of first met told error r.is says)) in
    record {
      error = error;
      earned = subst (λ o. IfSome o (λ b. Earns g.max_in (fronts news) b error)) (sym r.taken) (if_some old.taken (λ (b : List ℕ) (is : b ≡ bytes). subst (λ x. Earns g.max_in (fronts news) x error) (sym is) (inr (r.begins.whole, (first, r.begins.spelled, stands)))) r.begins.taken);
      begins = gave.begins;
      whole = gave.whole;
    }

refused_for : (g : Settings) (moments : Option (List ℕ)) (slot at : ℕ) (olds news : List Knowledge) (old link : Shown) (first : Frame) (bytes : List ℕ) (met told : Answer) (error : Frame) → Refuses g moments slot at olds news old link first bytes met told
    → refusal told ≡ Some error → GivesFor (refusal told) old link → IsRefusedBy g moments slot olds news link told
refused_for g moments slot at olds news old link first bytes met told error r says gives =
    let gave = gave_all old link (framed_frame error) r.begins.ungiven (gives_for old link told error says gives) in
    record {
      at = at;
      first = first;
      is_first = first_of g.max_in old link first bytes r.begins r.taken;
      met = met;
      opens = r.opens;
      error = error;
      earned = error_of first met told error r.is says;
      told = r.is;
      given = gave.begins;
      whole = gave.whole;
    }

-- why no connection was opened, and how the link is served
pub record Reasons (g : Settings) (moments : Option (List ℕ)) (slot : ℕ) (olds news : List Knowledge) (link : Shown) (s : Served) : Type 0 where
  pub unopened : IsUnopened g moments news link (s, None)
  pub cause : ServedFor g moments slot olds news link (s, None)

reasons : (g : Settings) (moments : Option (List ℕ)) (slot at : ℕ) (olds news : List Knowledge) (old link : Shown) (first : Frame) (bytes : List ℕ) (met told : Answer) → Refuses g moments slot at olds news old link first bytes met told
    → GivesFor (refusal told) old link → Reasons g moments slot olds news link (refused_by told)
reasons g moments slot at olds news old link first bytes met (answer.SetupRefused why) r gives = record {
  unopened = inl (turned_so g moments slot at olds news old link first bytes met (answer.SetupRefused why) _ r refl gives);
  cause = refused_for g moments slot at olds news old link first bytes met (answer.SetupRefused why) _ r refl gives;
}
reasons g moments slot at olds news old link first bytes met (answer.ResumeRefused why) r gives = record {
  unopened = inl (turned_so g moments slot at olds news old link first bytes met (answer.ResumeRefused why) _ r refl gives);
  cause = refused_for g moments slot at olds news old link first bytes met (answer.ResumeRefused why) _ r refl gives;
}
reasons g moments slot at olds news old link first bytes met answer.TapeFull r gives =
    let full : met ≡ answer.TapeFull = told_full (resumes first) met (sym r.is) in
    let opens : OpensAt g moments slot at olds news first answer.TapeFull = subst (λ (a : Answer). OpensAt g moments slot at olds news first a) full r.opens in
    let long = full_tries g moments opens.old first opens.taken opens.new.front opens.tries in
    record {
      unopened = inr (inr (full_one news at opens.new opens.is long));
      cause = record { at = at; first = first; is_first = first_of g.max_in old link first bytes r.begins r.taken; opens = opens; full = long };
    }
reasons g moments slot at olds news old link first bytes met _ r gives = record { unopened = tt; cause = tt }

-- all that is said of a link whose opening was not accepted
pub refused_so : (g : Settings) (moments : Option (List ℕ)) (helps : Bool) (grant : Option ℕ) (slot at : ℕ) (routes : List Listed) (olds news : List Knowledge) (work : Option (List OpenJob)) (old link : Shown) (first : Frame) (bytes : List ℕ) (met : Answer) (s : Served)
    → Refuses g moments slot at olds news old link first bytes met (told_as (resumes first) met) → (s ≢ served.OutOfMemory → s ≡ refused_by (told_as (resumes first) met)) → (s ≢ served.OutOfMemory → GivesFor (refusal (told_as (resumes first) met)) old link)
    → (s ≡ served.OutOfMemory → link.given ≡ old.given) → ServedSo g moments helps grant slot routes olds news work work link (s, None)
refused_so g moments helps grant slot at routes olds news work old link first bytes met s r says gives nothing = by (is_out s)
  where
    by : (s ≡ served.OutOfMemory) ⊎ (s ≢ served.OutOfMemory) → ServedSo g moments helps grant slot routes olds news work work link (s, None)
    by (inl is) = out_so g moments helps grant slot routes olds news work link s is r.back (inr (none_opened g moments slot at olds news old link first bytes met (told_as (resumes first) met) r (inl (nothing is))))
    by (inr some) =
        let is = says some in
        let why = reasons g moments slot at olds news old link first bytes met (told_as (resumes first) met) r (gives some) in
        subst (λ (v : Served). ServedSo g moments helps grant slot routes olds news work work link (v, None)) (sym is) (record {
          same = r.back;
          added = inr (none_opened g moments slot at olds news old link first bytes met (told_as (resumes first) met) r (inr (gives some)));
          carried = tt;
          left = left_none g news link (refused_by (told_as (resumes first) met));
          unopened = why.unopened;
          cause = why.cause;
          work = work_none routes olds news work (refused_by (told_as (resumes first) met));
        })

-- the frame that resumes is the one that asks to
resumes_as : (first : Frame) → is_resume (wish_of first) ≡ resumes first
resumes_as (frame.Resume r) = refl
resumes_as (frame.Setup s) = by s.resume
  where
    by : (o : Option (List ℕ)) → is_resume (begins_by o) ≡ false
    by None = refl
    by (Some token) = refl
resumes_as _ = refl

-- the same, by what was asked for
pub refused_as : (g : Settings) (moments : Option (List ℕ)) (helps : Bool) (grant : Option ℕ) (slot at : ℕ) (routes : List Listed) (olds news : List Knowledge) (work : Option (List OpenJob)) (old link : Shown) (first : Frame) (bytes : List ℕ) (met : Answer) (s : Served) (resuming : Bool)
    → resuming ≡ is_resume (wish_of first) → AreBack olds news → IsFirstOf first bytes g.max_in old → OpensAt g moments slot at olds news first met → ((c : ℕ) → met ≢ answer.Opened c) → link.taken ≡ old.taken
    → (s ≢ served.OutOfMemory → s ≡ refused_by (told_as resuming met)) → (s ≢ served.OutOfMemory → GivesFor (refusal (told_as resuming met)) old link) → (s ≡ served.OutOfMemory → link.given ≡ old.given)
    → ServedSo g moments helps grant slot routes olds news work work link (s, None)
refused_as g moments helps grant slot at routes olds news work old link first bytes met s resuming asks back begins opens refused taken says gives nothing =
    let same : resuming ≡ resumes first = asks ∙ resumes_as first in
    refused_so g moments helps grant slot at routes olds news work old link first bytes met s (record { back = back; begins = begins; opens = opens; refused = refused; is = refl; taken = taken })
    (λ some. says some ∙ ap (λ b. refused_by (told_as b met)) same) (λ some. subst (λ b. GivesFor (refusal (told_as b met)) old link) same (gives some)) nothing
